-- What holds of every past.
use Rattle.std.specs.Prelude.{◌≡◌, ℕ, ◌+◌, ◌-◌, ◌*◌, ◌<◌, ◌≤◌, Bool, true, false, ◌&&◌, List, [], ◌∷◌, length, None, Ok, Err, ◌==◌, nat_eq}
use Rattle.std.specs.List.{AllByRecursion as Each}
use Rattle.book.specs.Law.{Conserved}
use Rattle.book.specs.Meaning.{limit}
use Rattle.gathering.specs.Law.{Fails}
use Rattle.memory.specs.declared.place.Fault.{Fault}
use Rattle.memory.specs.declared.place.Table.TheVariants.{Prices}
use Rattle.memory.specs.declared.row.Kind.TheVariants.{Substitute}
use Rattle.memory.specs.Deals.{worth_by, target_of}
use Rattle.memory.specs.Register.{Sound}
use Rattle.memory.specs.Sound.{fault_of}
use Rattle.panel.specs.Standing.{given, given_in_all}
use Rattle.sharing.specs.Limits.{most_daily}
use Rattle.sides.specs.declared.refusal.Refusal.TheVariants.{Broken}
use Rattle.sides.specs.declared.terms.Terms.{Terms}
use Rattle.tables.specs.Values.{held_worths}
use Rattle.valuation.specs.declared.price.Price.{Price}
use Rattle.valuation.specs.Most.{most_units}
use Rattle.law.specs.Sums.{only, total}
use Rattle.law.specs.World.{State, World, state_of}
use Rattle.law.specs.Slips.{back_slip, out_slip}
use Rattle.law.specs.Plans.{Plan}
use Rattle.law.specs.Calls.{Call, settle, substitute, mark, worth_on, quantity_worth, order_for, deal_for, the_line, its_deal, marked, mark_value}
use Rattle.law.specs.Outcomes.{outcome, after}
use Rattle.law.specs.Past.{Opening, Entry, Past, slipped, is_out, is_back, pair_of}
use Rattle.law.specs.Agree.{Agree}
use Rattle.law.specs.Sparing.{Spent}

-- every past agrees with its history
abbrev pub EveryPastAgrees : Type 0
EveryPastAgrees = (o : Opening) (w : World) (h : List Entry) → Past o w h → Agree o w h

-- and its register is sound over its book, so that no rule of the head or of a table is found broken
pub record SoundOver (w : World) : Type 0 where
  pub sound : Sound w.book.accounts w.book.resources w.head w.deals w.lines
  pub faultless : None ≡ fault_of w.book.accounts w.book.resources w.head w.deals w.lines
  -- a call that finds something broken finds it in the price list
  pub unbroken : (c : Call) (f : Fault) → outcome c w ≡ Err (Broken f) → f.table ≡ Prices

abbrev pub EveryPastIsSound : Type 0
EveryPastIsSound = (o : Opening) (w : World) (h : List Entry) → Past o w h → SoundOver w

-- ── the front panel ──

-- stock that went out, and that came back, on the deals that an account gives by their matched pairs, of the securities that pass a test
abbrev pub out_on_given : ℕ → (ℕ → Bool) → List Entry → ℕ
out_on_given a test h = slipped (λ x. only (is_out x && ((pair_of x.deal h).giver == a && test x.resource)) x.amount) h

abbrev pub back_on_given : ℕ → (ℕ → Bool) → List Entry → ℕ
back_on_given a test h = slipped (λ x. only (is_back x && ((pair_of x.deal h).giver == a && test x.resource)) x.amount) h

-- what the panel shows of a security, and of all, is what was delivered less what was sent back
pub record PanelTells (w : World) (h : List Entry) : Type 0 where
  pub security : (a r : ℕ) → given a r w.head w.deals w.lines + back_on_given a (λ s. nat_eq s r) h ≡ out_on_given a (λ s. nat_eq s r) h
  pub in_all : (a : ℕ) → given_in_all a w.book.resources w.head w.deals w.lines + back_on_given a (λ _. true) h ≡ out_on_given a (λ _. true) h

abbrev pub EveryPanelTells : Type 0
EveryPanelTells = (o : Opening) (w : World) (h : List Entry) → Past o w h → PanelTells w h

-- ── nothing is made and nothing is lost ──

abbrev pub EveryPastConserves : Type 0
EveryPastConserves = (o : Opening) (w : World) (h : List Entry) → Past o w h → Conserved o.book w.book (total (λ e. length e.slips) h)

-- ── no bound is passed ──

pub record Bounded (w : World) : Type 0 where
  pub amounts : (a r : ℕ) → w.book.amount a r ≤ limit
  pub quantities : Each (λ l. l.quantity ≤ most_units) (state_of w).lines
  pub interest : Each (λ d. d.whole ≤ most_daily * w.head.date) (state_of w).deals

abbrev pub EveryPastIsBounded : Type 0
EveryPastIsBounded = (o : Opening) (w : World) (h : List Entry) → Past o w h → Bounded w

-- ── what calls achieve ──

-- after an accepted settle the deal is worth its target
abbrev pub SettleCovers : Type 0
SettleCovers =
    (o : Opening) (w : World) (h : List Entry) → Past o w h → (ps : List Price) (places : ℕ) (t : Terms) (p : Plan) → outcome (settle ps places t) w ≡ Ok p
    → target_of (deal_for w.head.next.deal t) ≤ worth_on ps (deal_for w.head.next.deal t) (state_of (after (settle ps places t) w)).lines

-- by the deal, what it was worth, and the state after
pub record Marks (ps : List Price) (n : ℕ) (s : State) (p : Plan) (t : State) : Type 0 where
  pub covered : p.alert ≡ false → target_of (marked s n) ≤ worth_on ps (marked s n) t.lines
  -- under alert B nothing moves, and no basket by the rule covers the difference
  pub unmoved : p.alert ≡ true → p.slips ≡ []
  pub uncovered : p.alert ≡ true
      → Fails s.book (worth_by (marked s n).weighing) ps (order_for (marked s n) (target_of (marked s n) - mark_value s ps n)) (held_worths (worth_by (marked s n).weighing) (marked s n).currency ps n s.lines)
  -- above the target, no line worth something can send back one unit more
  pub spent : target_of (marked s n) < mark_value s ps n → Each (Spent ps (marked s n) t.book (worth_on ps (marked s n) t.lines)) t.lines

abbrev pub MarkCovers : Type 0
MarkCovers =
    (o : Opening) (w : World) (h : List Entry) → Past o w h → (ps : List Price) (places n : ℕ) (p : Plan) → outcome (mark ps places n) w ≡ Ok p
    → Marks ps n (state_of w) p (state_of (after (mark ps places n) w))

-- the quantity that comes in is worth at least the one that goes out
pub record Replaces (ps : List Price) (s : State) (n out security : ℕ) (p : Plan) : Type 0 where
  pub quantity : ℕ
  pub slips : p.slips ≡ back_slip Substitute (its_deal s n) n (the_line s n).security out ∷ (out_slip Substitute (its_deal s n) s.next_line security quantity ∷ [])
  pub enough : quantity_worth ps (its_deal s n) (the_line s n).security out ≤ quantity_worth ps (its_deal s n) security quantity

abbrev pub SubstituteCovers : Type 0
SubstituteCovers =
    (o : Opening) (w : World) (h : List Entry) → Past o w h → (ps : List Price) (places n out security : ℕ) (p : Plan) → outcome (substitute ps places n out security) w ≡ Ok p
    → Replaces ps (state_of w) n out security p
