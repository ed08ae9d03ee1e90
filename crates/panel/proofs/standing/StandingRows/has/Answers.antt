use Rattle.std.proofs.Common.{eqb, ap, ◌∙◌}
use Rattle.panel.proofs.Parties.{party_none, party_found}
use Rattle.panel.proofs.standing.StandingRows.has.Goals as goal

pub returns-in_default : goal.returns-in_default
returns-in_default c =
    let s = c.args.self.now in
    party_none c.args.holder.party c.args.holder.account c.args.number s.checked.register.head.now s.checked.register.deals.now s.orderly.rise c.in_default.ensures.place

pub returns : goal.returns
returns c =
    let s = c.args.self.now in
    ap (λ n. eqb n c.args.holder.account) c.of.ensures ∙ party_found c.args.holder.party c.args.holder.account c.args.number s.checked.register.head.now s.checked.register.deals.now s.orderly.rise c.in-Some.row c.in-Some.ensures.found
