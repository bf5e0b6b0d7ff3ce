-- The text that is made from a number, as far as it stands.
use Rattle.std.proofs.Common.{ℕ, ◌≡◌, ◌+◌, List, ◌++◌, append_assoc, add-one, ap, ◌∙◌, sym}
use Rattle.model_run.specs.Generator.{first_lines, lines_for, lines_up_to}

-- the lines for a number more
pub lines_more : (text more : List ℕ) (n : ℕ) → text ≡ first_lines ++ lines_up_to n → more ≡ text ++ lines_for (n + 1) → more ≡ first_lines ++ lines_up_to (n + 1)
lines_more text more n so_far added =
    added ∙ (ap (λ z. z ++ lines_for (n + 1)) so_far ∙ (append_assoc first_lines (lines_up_to n) (lines_for (n + 1)) ∙ ap (λ z. first_lines ++ z) (ap (λ m. lines_up_to n ++ lines_for m) (add-one n) ∙ sym (ap lines_up_to (add-one n)))))
