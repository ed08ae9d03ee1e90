-- The used deals, judged in one pass over their lines. Assumes nothing.
use Rattle.std.proofs.Common.{◌≡◌, ℕ, ◌+◌, ◌<◌, ◌≤◌, Bool, true, false, cond, eqb, List, [], ◌∷◌, map, length, get_or, take, replicate, is_some, Some, None, Option, unwrap_or, sym, refl, ap, ◌∙◌, subst, arith}
use Rattle.std.proofs.lemmas.List.{length-take, length-replicate, get_or-map, get_or-take, get_or-replicate, take_all}
use Rattle.std.proofs.lemmas.Bool.Decides.{nat_tests}
use Rattle.std.specs.Option.{option_or}
use Rattle.sharing.specs.Limits.{most_cash}
use Rattle.memory.specs.declared.row.Deal.{Deal}
use Rattle.memory.specs.declared.row.Head.{Head}
use Rattle.memory.specs.declared.row.Line.{Line}
use Rattle.memory.specs.Checks.{keys_of, uneven, balanced, on_deal, first_loose}
use Rattle.memory.specs.Places.{Rising, place_from, place_of}
use Rattle.memory.specs.Rows.{no_deal}
use Rattle.memory.specs.Sound.{number, parts_on, deal_fits, deal_sound, stands, first_broken, first_set}
use Rattle.memory.specs.Tally.{capped, with_parts, names}
use Rattle.memory.proofs.Balance.{length_keys, key_of, take_keys, rising_keys, uneven_is}
use Rattle.memory.proofs.Firsts.{passing, passing_le, passing_is, passing_all, passing_each, passing_rising, both_broken}
use Rattle.memory.proofs.Tallies.{length_with_parts, with_parts_at}

-- a deal stands where its number has a place
stands_from : (n i : ℕ) (ds : List Deal) → stands n ds ≡ is_some (place_from n i (map number ds))
unfolding stands place_from
stands_from n i [] = refl
stands_from n i (d ∷ ds) = ap (λ b. cond (eqb d.number n) true b) (stands_from n (i + 1) ds) ∙ either (eqb d.number n) i (place_from n (i + 1) (map number ds))
  where
    either : (b : Bool) (j : ℕ) (o : Option ℕ) → cond b true (is_some o) ≡ is_some (cond b (Some j) o)
    either true j o = refl
    either false j o = refl

pub stands_is : (n : ℕ) (ds : List Deal) → stands n ds ≡ is_some (place_of n (map number ds))
stands_is n ds = stands_from n 0 ds

module _ (accounts : ℕ) (h : Head) where
  pub fits_above : (b : ℕ) (d : Deal) → deal_fits accounts h b d ≡ true → b < d.number
  fits_above b d e = grind (arith, nat_tests)

  fits_below : (b : ℕ) (d : Deal) → deal_fits accounts h b d ≡ true → d.number < h.next.deal
  fits_below b d e = grind (arith, nat_tests)

  fits_cash : (b : ℕ) (d : Deal) → deal_fits accounts h b d ≡ true → d.cash ≤ most_cash
  fits_cash b d e = grind (arith, nat_tests)

  module _ (xs : List Deal) where
    abbrev pub fit : List Deal
    fit = take (passing number (deal_fits accounts h) 0 xs) xs

    abbrev pub fit_keys : List ℕ
    fit_keys = keys_of h.next.deal fit

    fit_few : length fit ≡ passing number (deal_fits accounts h) 0 xs
    fit_few = let le = passing_le number (deal_fits accounts h) 0 xs in length-take (passing number (deal_fits accounts h) 0 xs) xs ∙ (omega arith)

    fit_at : (k : ℕ) → k < length fit → get_or fit k no_deal ≡ get_or xs k no_deal
    fit_at k l = get_or-take (passing number (deal_fits accounts h) 0 xs) xs k no_deal (omega (arith, fit_few))

    fit_each : (k : ℕ) → k < length fit → (b : ℕ) × (deal_fits accounts h b (get_or fit k no_deal) ≡ true)
    fit_each k l =
        let e = passing_each number (deal_fits accounts h) 0 xs k no_deal (omega (arith, fit_few)) in
        (e.0, ap (deal_fits accounts h e.0) (fit_at k l) ∙ e.1)

    module _ (few : length xs ≤ 64) where
      pub fit_short : length fit ≤ 64
      fit_short = omega (arith, fit_few, passing_le number (deal_fits accounts h) 0 xs)

      pub keys_rise : Rising fit_keys
      keys_rise =
          rising_keys h.next.deal fit fit_short (passing_rising number (deal_fits accounts h) fits_above xs no_deal)
          (λ k l. let e = fit_each k l in omega (arith, get_or-map number fit k no_deal 0 l, fits_below e.0 (get_or fit k no_deal) e.1))

      module _ (ls : List Line) where
        sum_is : (k : ℕ) → k < length fit → eqb (get_or fit k no_deal).cash (get_or (with_parts fit_keys (replicate 64 0) ls) k 0) ≡ balanced ls (get_or fit k no_deal)
        sum_is k l =
            let d = get_or fit k no_deal in
            let e = fit_each k l in
            let low = fits_cash e.0 d e.1 in
            let k64 : k < 64 = omega (arith, fit_short) in
            let key : get_or fit_keys k 0 ≡ d.number = key_of h.next.deal fit k l k64 ∙ get_or-map number fit k no_deal 0 l in
            let long = length_keys h.next.deal fit in
            let start : get_or (replicate 64 0) k 0 ≡ capped 0 = get_or-replicate 64 k 0 0 k64 in
            let is = with_parts_at fit_keys (replicate 64 0) ls k 0 (omega arith) k64 start in
            let parts = parts_on d.number ls in
            let sum : get_or (with_parts fit_keys (replicate 64 0) ls) k 0 ≡ capped (0 + parts) = is ∙ ap (λ n. capped (0 + parts_on n ls)) key in
            ap (eqb d.cash) sum ∙ same d.cash parts low
          where
            same : (c s : ℕ) → c ≤ most_cash → eqb c (capped (0 + s)) ≡ eqb c s
            same c s low = grind (arith, nat_tests)

        pub uneven_fit : uneven fit (with_parts fit_keys (replicate 64 0) ls) ≡ first_set (balanced ls) 0 fit
        uneven_fit =
            let long = length_with_parts fit_keys (replicate 64 0) ls ∙ length-replicate {A = ℕ} 64 0 in
            uneven_is (balanced ls) fit _ (omega (arith, fit_short)) sum_is

        pub deals_broken : option_or (uneven fit (with_parts fit_keys (replicate 64 0) ls)) (first_broken number (deal_fits accounts h) 0 0 xs) ≡ first_broken number (deal_sound accounts h ls) 0 0 xs
        deals_broken =
            ap (λ (o : Option ℕ). option_or o (first_broken number (deal_fits accounts h) 0 0 xs)) uneven_fit
            ∙ sym (both_broken number (deal_fits accounts h) (balanced ls) 0 0 xs)

        pub deals_loose : None ≡ first_broken number (deal_fits accounts h) 0 0 xs → first_set (names fit_keys (length fit)) 0 ls ≡ first_loose xs ls
        unfolding first_loose
        deals_loose e =
            let whole : fit ≡ xs = take_all (passing number (deal_fits accounts h) 0 xs) xs (omega (arith, passing_all number (deal_fits accounts h) xs e)) in
            let each : (l : Line) → names fit_keys (length fit) l ≡ on_deal xs l = λ l.
            ap (λ (ns : List ℕ). is_some (place_of l.deal ns)) (take_keys h.next.deal fit fit_short)
            ∙ sym (stands_is l.deal fit)
            ∙ ap (stands l.deal) whole in
            λ i. first_set (λ l. each l i) 0 ls

    -- what the code holds on its way
    module _ (unfit : Option ℕ) (count : ℕ) (first : unfit ≡ first_broken number (deal_fits accounts h) 0 0 xs) (so : count ≡ unwrap_or unfit (length xs)) where
      count_is : count ≡ passing number (deal_fits accounts h) 0 xs
      count_is = so ∙ ap (λ (o : Option ℕ). unwrap_or o (length xs)) first ∙ passing_is number (deal_fits accounts h) xs

      pub count_within : count ≤ length xs
      count_within = omega (arith, count_is, passing_le number (deal_fits accounts h) 0 xs)

      module _ (few : length xs ≤ 64) (front : List Deal) (keys : List ℕ) (cut : front ≡ take count xs) (made : keys ≡ keys_of h.next.deal front) where
        front_is : front ≡ fit
        front_is = cut ∙ ap (λ n. take n xs) count_is

        keys_are : keys ≡ fit_keys
        keys_are = made ∙ ap (keys_of h.next.deal) front_is

        pub keys_rising : Rising keys
        keys_rising = subst Rising (sym keys_are) (keys_rise few)

        module _ (ls : List Line) (sums : List ℕ) (row loose : Option ℕ) (summed : sums ≡ with_parts keys (replicate 64 0) ls) (off : row ≡ uneven front sums) (free : loose ≡ first_set (names keys count) 0 ls) where
          pub looked_broken : option_or row unfit ≡ first_broken number (deal_sound accounts h ls) 0 0 xs
          looked_broken =
              (λ i. option_or (off i) (first i))
              ∙ (λ i. option_or (uneven (front_is i) (summed i)) (first_broken number (deal_fits accounts h) 0 0 xs))
              ∙ ap (λ (ns : List ℕ). option_or (uneven fit (with_parts ns (replicate 64 0) ls)) (first_broken number (deal_fits accounts h) 0 0 xs)) keys_are
              ∙ deals_broken few ls

          pub looked_loose : None ≡ option_or row unfit → loose ≡ first_loose xs ls
          looked_loose e =
              let n : count ≡ length fit = count_is ∙ sym fit_few in
              free ∙ (λ i. first_set (names (keys_are i) (n i)) 0 ls) ∙ deals_loose few ls (last row unfit e ∙ first)
            where
              last : (o p : Option ℕ) → None ≡ option_or o p → None ≡ p
              last None p z = z
              last (Some x) p z = let w : ◌≡◌ {A = ℕ} 0 1 = cc in absurd (omega arith)
