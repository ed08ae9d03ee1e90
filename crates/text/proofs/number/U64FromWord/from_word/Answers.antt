use Rattle.std.proofs.Common.{◌≡◌, get_or, Some, None, sym, ◌∙◌, arith, rules}
use Rattle.std.proofs.lemmas.Bool.Decides.{nat_tests}
use Rattle.text.specs.Numbers.{with_digit}
use Rattle.text.proofs.Digits.{digit_read, all_read, number_of-some, number_of-nil}
use Rattle.text.proofs.number.U64FromWord.from_word.Goals as goal

pub returns-then-is_empty : goal.returns-then-is_empty
returns-then-is_empty c = sym (number_of-nil c.args.word.now (grind (arith, nat_tests)))

pub loop-byte-init : goal.loop-byte-init
loop-byte-init c = record { so_far = sym (number_of-some c.args.word.now (grind (arith, nat_tests))); low = omega arith }

pub returns-in_err-number : goal.returns-in_err-number
returns-in_err-number c =
    let n = c.loop-byte.number in
    let i = c.loop-byte.byte-index in
    let e : None ≡ with_digit n (get_or c.args.word.now i 0) = search rules in
    let read = digit_read n c.args.word.now i (omega arith) None e in
    c.from_residual.ensures ∙ (sym read ∙ c.loop-byte.invariant.so_far)

pub loop-byte-preserved : goal.loop-byte-preserved
loop-byte-preserved c =
    let n = c.loop-byte.number in
    let i = c.loop-byte.byte-index in
    let e : Some c.in_ok-number.number ≡ with_digit n (get_or c.args.word.now i 0) = search rules in
    let read = digit_read n c.args.word.now i (omega arith) (Some c.in_ok-number.number) e in
    record { so_far = sym read ∙ c.loop-byte.invariant.so_far; low = grind (arith, nat_tests) }

pub returns : goal.returns
returns c = sym (all_read c.loop-byte.number c.args.word.now c.loop-byte.byte-index (omega arith) c.loop-byte.invariant.low) ∙ c.loop-byte.invariant.so_far
