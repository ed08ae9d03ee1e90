-- One plan carried out: the two halves of the law joined.
use Rattle.std.proofs.Common.{◌≡◌, ℕ, ◌+◌, ◌<◌, Bool, true, false, cond, eqb, List, [], ◌∷◌, sym, refl, ap, ◌∙◌, subst, inl, inr, arith}
use Rattle.std.specs.List.{AllByRecursion as Each}
use Rattle.std.proofs.lemmas.Bool.{cases_eq, both_ways, ne_eqb}
use Rattle.book.specs.Lists.{run}
use Rattle.book.proofs.Runs.{run_lawful}
use Rattle.memory.specs.declared.row.Deal.{Deal}
use Rattle.memory.specs.declared.row.Line.{Line}
use Rattle.memory.specs.declared.row.Phase.{Phase}
use Rattle.memory.specs.declared.row.Sense.{Sense}
use Rattle.memory.specs.declared.row.Sense.TheVariants.{Out, Back, Cash}
use Rattle.memory.specs.declared.row.Slip.{Slip}
use Rattle.memory.specs.Kinds.{sense_number}
use Rattle.book.specs.Meaning.{Meaning}
use Rattle.sides.specs.declared.terms.Terms.{Terms}
use Rattle.memory.specs.Rows.{no_deal}
use Rattle.memory.specs.Sound.{number}
use Rattle.valuation.specs.declared.price.Price.{Price}
use Rattle.law.specs.World.{State}
use Rattle.law.specs.Finding.{has_deal, deal_of}
use Rattle.law.specs.Slips.{movements_of, lines_by, issuing, line_by_sense}
use Rattle.law.specs.Changes.{none, numbers_by}
use Rattle.law.specs.Plans.{Plan, Sharing, asis, over, parted, deals_after, lines_after, carried}
use Rattle.law.specs.Calls.{Call, settle, return_line, substitute, amend, open_day_end, mark, close_day_end, lift_day_end, pay}
use Rattle.law.specs.Past.{Opening, Entry, other, stated_by, pair_by, pair_of, is_out, is_back, is_cash}
use Rattle.law.proofs.Totals.{all_to, all_both, found_all, found_key}
use Rattle.law.proofs.Histories.{Stock}
use Rattle.law.proofs.Fitting.{Fit, Fitting}
use Rattle.law.proofs.Rows.{Placed, parts_others}
use Rattle.law.proofs.Parting.{parted_length, parted_whole, parted_others, lines_on}
use Rattle.law.proofs.Kept.{parts_for, Ranged, Says, DealsKept, Between, Kept}
use Rattle.law.proofs.LinesStep.{Carried, lines_step}
use Rattle.law.proofs.Unchanged.{stock_low, none_step}
use Rattle.law.proofs.Verdicts.{Passes}

-- what an accepted call adds to a history
abbrev pub entry_for : Call → State → Plan → Entry
entry_for c s p = record { call = c; next = s.next_deal; slips = p.slips }

-- ── stock goes between the parties of its deal's pair ──

-- an entry leaves the pairs of deals that were settled before it
older_pair : (c : Call) (next m : ℕ) (t : Terms) → m < next → pair_by m (stated_by c next) t ≡ t
older_pair (settle ps places u) next m t l = ap (λ b. cond b u t) (ne_eqb next m (λ e. let z : ⊥ = omega (arith, l, e) in z))
older_pair (return_line places n) next m t l = refl
older_pair (substitute ps places n out security) next m t l = refl
older_pair (amend n rate due) next m t l = refl
older_pair open_day_end next m t l = refl
older_pair (mark ps places n) next m t l = refl
older_pair (close_day_end date) next m t l = refl
older_pair lift_day_end next m t l = refl
older_pair (pay places n) next m t l = refl

senses : (x : Slip) → (is_out x ≡ true → is_cash x ≡ false) × (is_back x ≡ true → is_cash x ≡ false)
senses x = go x.sense
  where
    go : (σ : Sense) → (eqb (sense_number σ) 0 ≡ true → eqb (sense_number σ) 2 ≡ false) × (eqb (sense_number σ) 1 ≡ true → eqb (sense_number σ) 2 ≡ false)
    go Out = ((λ e. refl), (λ e. refl))
    go Back = ((λ e. refl), (λ e. refl))
    go Cash = ((λ e. absurd (both_ways false refl e)), (λ e. absurd (both_ways false refl e)))

between_older : (h : List Entry) (c : Call) (s : State) (p : Plan) (x : Slip) → Between s.next_deal h x → Between (s.next_deal + numbers_by p.change) (entry_for c s p ∷ h) x
between_older h c s p x b =
    record {
      below = λ e. omega (arith, b.below e);
      out = λ e. b.out e ∙ ap (λ t. t.giver) (sym (older_pair c s.next_deal x.deal (pair_of x.deal h) (b.below ((senses x).0 e))));
      back = λ e. b.back e ∙ ap (λ t. t.giver) (sym (older_pair c s.next_deal x.deal (pair_of x.deal h) (b.below ((senses x).1 e))));
    }

module _ (o : Opening) (m : Meaning) (date next : ℕ) (ds : List Deal) (after : List Line) (h : List Entry) (d : DealsKept o m date next ds after h) (resources : ℕ) where
  -- what the row of a deal says of its giver and of its number
  row_says : (n : ℕ) → has_deal n ds ≡ true → ((deal_of n ds).giver ≡ (pair_of n h).giver) × (n < next)
  row_says n there =
      let b = found_all number (λ x. Says o h after x × Ranged m.accounts next date x) no_deal n ds there (all_both _ _ ds d.says d.ranged) in
      let key = found_key number no_deal n ds there in
      (b.0.giver ∙ ap (λ i. (pair_of i h).giver) key, omega (arith, b.1.number_below, key))

  between_one : (n : ℕ) (ls : List Line) (σ : Sense) (x : Slip) → x.sense ≡ σ → Fit resources ds n ls σ x → Between next h x
  between_one n ls Out x e k =
      let r = row_says x.deal k.stands in
      record { below = λ _. r.1; out = λ _. k.from ∙ r.0; back = λ b. let f : is_back x ≡ false = rw e in absurd (both_ways (is_back x) f b) }
  between_one n ls Back x e k =
      let r = row_says x.deal k.stands in
      record { below = λ _. r.1; out = λ b. (let f : is_out x ≡ false = rw e in absurd (both_ways (is_out x) f b)); back = λ _. k.to ∙ r.0 }
  between_one n ls Cash x e k =
      let t : is_cash x ≡ true = rw e in
      let f : is_out x ≡ false = rw e in
      let g : is_back x ≡ false = rw e in
      record { below = λ b. absurd (both_ways (is_cash x) b t); out = λ b. absurd (both_ways (is_out x) f b); back = λ b. absurd (both_ways (is_back x) g b) }

  pub between_new : (xs : List Slip) (n : ℕ) (ls : List Line) → Fitting resources ds n xs ls → Each (Between next h) xs
  between_new [] n ls f = tt
  between_new (x ∷ xs) n ls f = (between_one n ls x.sense x refl f.0, between_new xs (n + issuing x.sense) (line_by_sense x.sense x ls) f.1)

-- ── the two halves joined ──

pub joined : (o : Opening) (s : State) (h : List Entry) (c : Call) (p : Plan) (places : ℕ) → Kept o s h → Passes s p places
    → Carried s.deals (deals_after s p) s.lines
    → Fitting s.book.resources (deals_after s p) s.next_line p.slips s.lines
    → DealsKept o (run s.book (movements_of p.slips)) p.date (s.next_deal + numbers_by p.change) (deals_after s p) (parted p.sharing (deals_after s p) (lines_after s p)) (entry_for c s p ∷ h)
    → Kept o (carried s p) (entry_for c s p ∷ h)
unfolding carried
joined o s h c p places k ok on fits d =
    record {
      lawful = run_lawful 0 s.book (movements_of p.slips) k.lawful ok.book;
      deal_rows_fit = k.deal_rows_fit;
      line_rows_fit = k.line_rows_fit;
      deals_room = ok.deal_rows_fit;
      lines_room = omega (arith, ok.line_rows_fit, parted_length p.sharing (deals_after s p) (lines_after s p));
      deal_most = ok.deal_numbers_left;
      line_most = ok.line_numbers_left;
      lines = lines_step o s.book s.deals (deals_after s p) s.next_line s.lines h (entry_for c s p) p.sharing k.lines on fits ok.book;
      deals = d;
      slips = (between_all p.slips s.next_line s.lines fits, all_to _ _ (λ x a. all_to _ _ (λ y b. between_older h c s p y b) x.slips a) h k.slips);
    }
  where
    between_all : (xs : List Slip) (next : ℕ) (ls : List Line) → Fitting s.book.resources (deals_after s p) next xs ls → Each (Between (s.next_deal + numbers_by p.change) (entry_for c s p ∷ h)) xs
    between_all xs next ls f = between_new o (run s.book (movements_of p.slips)) p.date (s.next_deal + numbers_by p.change) (deals_after s p) (parted p.sharing (deals_after s p) (lines_after s p)) (entry_for c s p ∷ h) d s.book.resources xs next ls f

-- ── deals that stay as they are ──

pub same_deals : (ds : List Deal) (resources next : ℕ) (ls : List Line) → Each (Placed resources ds next) ls → Carried ds ds ls
same_deals ds resources next ls = all_to _ _ (λ l p. (p.stands, record { giver = refl; taker = refl; currency = refl })) ls

-- no slip leaves the lines as they are
pub no_slips : (ls : List Line) → lines_by [] ls ≡ ls
unfolding lines_by
no_slips ls = refl

-- shared out again, a deal that has lines has its cash on them
pub even_over : (o : Opening) (s : State) (h : List Entry) (k : Kept o s h) (ps : List Price) (n : ℕ) (xs : List Slip)
    → Fitting s.book.resources s.deals s.next_line xs s.lines → Each (λ x. x.deal ≡ n) xs → 0 < lines_on n (lines_by xs s.lines)
    → (i : ℕ) → has_deal i s.deals ≡ true → parts_for i (parted (over ps n) s.deals (lines_by xs s.lines)) ≡ parts_for i s.lines
even_over o s h k ps n xs fits one some i there =
    elim (cases_eq i n) [
      | inl is ↦
          let said = found_all number (Says o h s.lines) no_deal i s.deals there k.deals.says in
          let key = found_key number no_deal i s.deals there in
          subst (λ j. parts_for j (parted (over ps n) s.deals (lines_by xs s.lines)) ≡ parts_for j s.lines) (sym is)
          (parted_whole ps n s.deals (lines_by xs s.lines) some
          ∙ ap (λ j. (deal_of j s.deals).cash) (sym is) ∙ sym said.parts ∙ ap (λ j. parts_for j s.lines) (key ∙ is))
      | inr ne ↦
          parted_others ps n s.deals (lines_by xs s.lines) i ne
          ∙ parts_others s.book.resources s.deals i s.next_line xs s.lines fits (all_to _ _ (λ x e d. ne (sym d ∙ e)) xs one)
    ]

-- a plan that leaves the deals, moves stock and nothing else, and leaves each deal its cash on its lines
pub stock_only : (o : Opening) (s : State) (h : List Entry) (c : Call) (places : ℕ) (phase : Phase) (xs : List Slip) (sh : Sharing) (alert : Bool)
    → Kept o s h → Passes s (record { date = s.date; phase = phase; change = none; slips = xs; sharing = sh; alert = alert }) places
    → stated_by c s.next_deal ≡ other
    → Fitting s.book.resources s.deals s.next_line xs s.lines → Each Stock xs
    → ((i : ℕ) → has_deal i s.deals ≡ true → parts_for i (parted sh s.deals (lines_by xs s.lines)) ≡ parts_for i s.lines)
    → Kept o (carried s (record { date = s.date; phase = phase; change = none; slips = xs; sharing = sh; alert = alert })) (record { call = c; next = s.next_deal; slips = xs } ∷ h)
stock_only o s h c places phase xs sh alert k ok st fits stocks even =
    let p : Plan = record { date = s.date; phase = phase; change = none; slips = xs; sharing = sh; alert = alert } in
    let n : s.next_deal ≡ s.next_deal + 0 = omega arith in
    joined o s h c p places k ok (same_deals s.deals s.book.resources s.next_line s.lines k.lines.placed) fits
    (subst (λ x. DealsKept o (run s.book (movements_of xs)) s.date x s.deals (parted sh s.deals (lines_by xs s.lines)) (entry_for c s p ∷ h)) n
    (none_step o s.book s.date s.next_deal s.deals s.lines (parted sh s.deals (lines_by xs s.lines)) h (entry_for c s p) k.deals ok.book st stocks
    (stock_low s.book.resources s.deals s.next_line xs s.lines fits stocks) even))

-- and one that moves nothing at all
pub nothing_moves : (o : Opening) (s : State) (h : List Entry) (c : Call) (places : ℕ) (phase : Phase) (alert : Bool)
    → Kept o s h → Passes s (record { date = s.date; phase = phase; change = none; slips = []; sharing = asis; alert = alert }) places
    → stated_by c s.next_deal ≡ other
    → Kept o (carried s (record { date = s.date; phase = phase; change = none; slips = []; sharing = asis; alert = alert })) (record { call = c; next = s.next_deal; slips = [] } ∷ h)
nothing_moves o s h c places phase alert k ok st =
    stock_only o s h c places phase [] asis alert k ok st tt tt (λ i t. ap (parts_for i) (no_slips s.lines))
