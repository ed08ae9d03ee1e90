use Rattle.std.proofs.Common.{refl}
use Rattle.books.proofs.Held.{naming_set, nothing_set, free_set, none_free, layered_set}
use Rattle.books.proofs.holdback.Holdback.set_row.Goals as goal

pub invariant_of-self : goal.invariant_of-self
invariant_of-self g c =
    let a = c.args in
    record { apart = (naming_set a.account a.resource a.quantity a.self.now.rows a.self.now.apart c.in-Some.i c.of-row.result c.of-row.ensures c.in-Some.ensures).apart }

pub invariant_of-self-2 : goal.invariant_of-self-2
invariant_of-self-2 g c =
    let a = c.args in
    record { apart = (free_set a.account a.resource a.quantity a.self.now.rows a.self.now.apart c.in_default.ensures c.in-Some-free_place.i c.of-row.result c.of-row.ensures c.if-quantity-eq0.false c.in-Some-free_place.ensures).apart }

pub returns-in-Some : goal.returns-in-Some
returns-in-Some g c =
    let a = c.args in
    let m = g.B.Book.meaning a.self.now.below in
    let rows = a.self.now.rows in
    let s = naming_set a.account a.resource a.quantity rows a.self.now.apart c.in-Some.i c.of-row.result c.of-row.ensures c.in-Some.ensures in
    record {
      answer = rw s.room refl;
      rows = rw s.room s.rows;
      below = refl;
      change = rw s.room (layered_set m rows _ a.account a.resource a.quantity s a.self.now.apart c.requires);
    }

pub returns-then-quantity-eq0 : goal.returns-then-quantity-eq0
returns-then-quantity-eq0 g c =
    let a = c.args in
    let m = g.B.Book.meaning a.self.now.below in
    let rows = a.self.now.rows in
    let s = nothing_set a.account a.resource a.quantity rows a.self.now.apart c.in_default.ensures c.if-quantity-eq0.true in
    record {
      answer = rw s.room refl;
      rows = rw s.room s.rows;
      below = refl;
      change = rw s.room (layered_set m rows rows a.account a.resource a.quantity s a.self.now.apart c.requires);
    }

pub returns-in_default-free_place : goal.returns-in_default-free_place
returns-in_default-free_place g c =
    let a = c.args in
    let n = none_free a.account a.resource a.quantity a.self.now.rows a.self.now.apart c.in_default.ensures c.if-quantity-eq0.false c.in_default-free_place.ensures in
    record { answer = rw n refl; rows = rw n refl; below = refl; change = rw n refl }

pub returns : goal.returns
returns g c =
    let a = c.args in
    let m = g.B.Book.meaning a.self.now.below in
    let rows = a.self.now.rows in
    let s = free_set a.account a.resource a.quantity rows a.self.now.apart c.in_default.ensures c.in-Some-free_place.i c.of-row.result c.of-row.ensures c.if-quantity-eq0.false c.in-Some-free_place.ensures in
    record {
      answer = rw s.room refl;
      rows = rw s.room s.rows;
      below = refl;
      change = rw s.room (layered_set m rows _ a.account a.resource a.quantity s a.self.now.apart c.requires);
    }
