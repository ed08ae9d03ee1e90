-- One movement. Assumes nothing.
use Rattle.std.proofs.Common.{◌≡◌, ◌+◌, ◌<◌, ◌≤◌, Ok, sym, refl, inl, inr, arith}
use Rattle.std.proofs.lemmas.Bool.{cases_eq}
use Rattle.std.proofs.lemmas.Bool.Decides.{nat_tests}
use Rattle.book.specs.declared.movement.Movement.{Movement}
use Rattle.book.specs.Meaning.{Meaning, Lawful, limit}
use Rattle.book.specs.Moving.{verdict, moved, after}

-- what an accepted movement says
pub record Allowed (m : Meaning) (v : Movement) : Type 0 where
  pub from_in : v.from < m.accounts
  pub to_in : v.to < m.accounts
  pub resource_in : v.resource < m.resources
  pub apart : v.from ≡ v.to → ⊥
  pub some : 0 < v.quantity
  pub enough : v.quantity + m.holdback v.from v.resource ≤ m.amount v.from v.resource
  pub room : m.amount v.to v.resource + v.quantity ≤ limit
  pub one_left : 0 < m.left

pub allowed : (m : Meaning) (v : Movement) → Ok tt ≡ verdict m v → Allowed m v
allowed m v e =
    record {
      from_in = grind (arith, nat_tests);
      to_in = grind (arith, nat_tests);
      resource_in = grind (arith, nat_tests);
      apart = λ h. grind (arith, nat_tests);
      some = grind (arith, nat_tests);
      enough = grind (arith, nat_tests);
      room = grind (arith, nat_tests);
      one_left = grind (arith, nat_tests);
    }

pub after_made : (m : Meaning) (v : Movement) → Ok tt ≡ verdict m v → after m v ≡ moved m v
after_made m v e = rw (sym e) refl

-- a meaning in its ranges stays so
pub moved_lawful : (m : Meaning) (v : Movement) → Lawful m → Ok tt ≡ verdict m v → Lawful (moved m v)
moved_lawful m v l e =
    let h = allowed m v e in
    record {
      accounts_low = l.accounts_low;
      accounts_high = l.accounts_high;
      resources_low = l.resources_low;
      resources_high = l.resources_high;
      amounts =
          λ a r. let b = l.amounts a r in
          elim (cases_eq r v.resource) [
            | inr d ↦ grind (arith, nat_tests)
            | inl p ↦ elim (cases_eq a v.to) [ inr d ↦ grind (arith, nat_tests) | inl f ↦ rw (p, f) (grind (arith, nat_tests)) ]
          ];
      holdbacks = l.holdbacks;
      no_amounts = λ a r o. let z = l.no_amounts a r o in grind (arith, nat_tests);
      no_holdbacks = l.no_holdbacks;
    }
