use Rattle.std.proofs.Common.{◌≡◌, Bool, true, false, cond, Some, None, sym, ap, ◌∙◌}
use Rattle.std.specs.Str.{chars}
use Rattle.model_tree.specs.Signature.{wholes, truths, texts}
use Rattle.program_check.proofs.types.sort_named.Goals as goal

first_name : (a b d : Bool) → a ≡ true → Some wholes ≡ cond a (Some wholes) (cond b (Some truths) (cond d (Some texts) None))
first_name a b d e = sym (ap (λ x. cond x (Some wholes) (cond b (Some truths) (cond d (Some texts) None))) e)

second_name : (a b d : Bool) → a ≡ false → b ≡ true → Some truths ≡ cond a (Some wholes) (cond b (Some truths) (cond d (Some texts) None))
second_name a b d e f = sym (λ i. cond (e i) (Some wholes) (cond (f i) (Some truths) (cond d (Some texts) None)))

third_name : (a b d : Bool) → a ≡ false → b ≡ false → d ≡ true → Some texts ≡ cond a (Some wholes) (cond b (Some truths) (cond d (Some texts) None))
third_name a b d e f g = sym (λ i. cond (e i) (Some wholes) (cond (f i) (Some truths) (cond (g i) (Some texts) None)))

no_name : (a b d : Bool) → a ≡ false → b ≡ false → d ≡ false → None ≡ cond a (Some wholes) (cond b (Some truths) (cond d (Some texts) None))
no_name a b d e f g = sym (λ i. cond (e i) (Some wholes) (cond (f i) (Some truths) (cond (g i) (Some texts) None)))

pub returns-then-is : goal.returns-then-is
unfolding chars
returns-then-is c = first_name _ _ _ (sym c.is.ensures ∙ c.if-is.true)

pub returns-then-is-2 : goal.returns-then-is-2
unfolding chars
returns-then-is-2 c = second_name _ _ _ (sym c.is.ensures ∙ c.if-is.false) (sym c.is-2.ensures ∙ c.if-is-2.true)

pub returns-then-is-3 : goal.returns-then-is-3
unfolding chars
returns-then-is-3 c = third_name _ _ _ (sym c.is.ensures ∙ c.if-is.false) (sym c.is-2.ensures ∙ c.if-is-2.false) (sym c.is-3.ensures ∙ c.if-is-3.true)

pub returns : goal.returns
unfolding chars
returns c = no_name _ _ _ (sym c.is.ensures ∙ c.if-is.false) (sym c.is-2.ensures ∙ c.if-is-2.false) (sym c.is-3.ensures ∙ c.if-is-3.false)
