-- The first words of commands to a register.
use Rattle.std.specs.Prelude.{ℕ, List, [], ◌∷◌, codes, Option}
use Rattle.register_script.specs.declared.verb.RegisterVerb.{RegisterVerb}
use Rattle.register_script.specs.declared.verb.RegisterVerb.TheVariants as register
use Rattle.register_script.specs.declared.verb.CallVerb.{CallVerb}
use Rattle.register_script.specs.declared.verb.CallVerb.TheVariants as call
use Rattle.text.specs.Naming.{lookup}

abbrev pub register_verb : List ℕ → Option RegisterVerb
register_verb w =
    lookup w (
    (codes "price", register.Price)
    ∷ ((codes "giver", register.Giver)
    ∷ ((codes "taker", register.Taker)
    ∷ ((codes "match", register.Match)
    ∷ ((codes "withdraw", register.Withdraw)
    ∷ ((codes "panel", register.Panel)
    ∷ ((codes "poke", register.Poke)
    ∷ [])))))))

abbrev pub call_verb : List ℕ → Option CallVerb
call_verb w =
    lookup w (
    (codes "settle", call.Settle)
    ∷ ((codes "return", call.Return)
    ∷ ((codes "substitute", call.Substitute)
    ∷ ((codes "amend", call.Amend)
    ∷ ((codes "open", call.Open)
    ∷ ((codes "mark", call.Mark)
    ∷ ((codes "close", call.Close)
    ∷ ((codes "lift", call.Lift)
    ∷ ((codes "pay", call.Pay)
    ∷ [])))))))))
