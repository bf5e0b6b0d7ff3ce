use Rattle.std.proofs.Common.{sym, subst, ◌∙◌, ap, inl, inr, arith, List, ℕ, length}
use Rattle.std.specs.Char.{IsScalar}
use Rattle.model_program.specs.Characters.{AllIn, is_hexadecimal}
use Rattle.model_program.specs.Quotes.{amount}
use Rattle.fast_lex.proofs.AmountLemmas.{run_count, hexadecimal_ascii}
use Rattle.fast_lex.proofs.UnitLemmas.{braced_none_ended, braced_none_wrong, braced_none_scalar, braced_next}
use Rattle.fast_lex.proofs.RunLemmas.{behind_one}
use Rattle.fast_lex.proofs.quoted.braced.Goals as goal

pub returns-in_err-right : goal.returns-in_err-right
returns-in_err-right c = rw c.from_residual-in_err-right.ensures (braced_none_ended _ _ _ _ c.in_ok-left.ensures.chars c.run_end-end.ensures c.in_err-right.ensures.chars)

pub returns-then-left-ne123 : goal.returns-then-left-ne123
returns-then-left-ne123 c =
    let run = c.run_end-end.ensures in let n = run_count is_hexadecimal hexadecimal_ascii _ _ _ run c.front-digits.ensures.bytes in
    braced_none_wrong _ _ _ _ _ _ c.in_ok-left.ensures.chars run c.in_ok-right.ensures.chars (elim c.then-left-ne123.either [
      | inl a ↦ inl a
      | inr (inl a) ↦ inr (inl a.1)
      | inr (inr (inl a)) ↦ inr (inr (inl (omega (arith, a.2))))
      | inr (inr (inr a)) ↦ inr (inr (inr (omega (arith, a.3))))
    ])

pub hexadecimal-requires-clause-all : goal.hexadecimal-requires-clause-all
hexadecimal-requires-clause-all c = let run = c.run_end-end.ensures in subst (AllIn is_hexadecimal) (sym (c.front-digits.ensures.chars _ run.behind)) run.all

pub hexadecimal-requires-clause-few : goal.hexadecimal-requires-clause-few
hexadecimal-requires-clause-few c =
    let run = c.run_end-end.ensures in let n = run_count is_hexadecimal hexadecimal_ascii _ _ _ run c.front-digits.ensures.bytes in
    let e = ap (λ (l : List ℕ). length l) (c.front-digits.ensures.chars _ run.behind) in omega (arith, c.if-count-gt6.false)

pub returns-in_err-c : goal.returns-in_err-c
returns-in_err-c c = let run = c.run_end-end.ensures in
    rw c.from_residual-in_err-c.ensures (braced_none_scalar _ _ _ _ _ c.in_ok-left.ensures.chars run (c.hexadecimal.ensures ∙ ap (λ l. amount 16 0 l) (c.front-digits.ensures.chars _ run.behind)) c.in_err-c.ensures.value)

pub returns : goal.returns
returns c =
    let run = c.run_end-end.ensures in let n = run_count is_hexadecimal hexadecimal_ascii _ _ _ run c.front-digits.ensures.bytes in
    let e = c.in_ok-left.ensures in let f = c.in_ok-right.ensures in let g = c.in_ok-c.ensures.value in
    braced_next _ _ _ _ _ _ _ (behind_one _ _ _ e.bytes e.chars) run (behind_one _ _ _ f.bytes f.chars) c.if-left-ne123.false c.if-right-ne125.false
    (omega (arith, c.if-count-eq0.false)) (omega (arith, c.if-count-gt6.false)) (g.1 ∙ c.hexadecimal.ensures ∙ ap (λ l. amount 16 0 l) (c.front-digits.ensures.chars _ run.behind)) (subst IsScalar (sym g.1) g.0)
