-- What is told of a result that goes on as a whole.
use Rattle.std.proofs.Common.{◌≡◌, List, ◌++◌, ◌∷◌, [], ◌⊎◌, ◌∙◌, inl, inr, refl, sym, subst, Result, Ok, Err}
use Rattle.std.proofs.lemmas.Result.{MatchResult-at_ok, MatchResult-at_err, MatchResult-from_both}
use Rattle.std.specs.Prelude.{⊤, MatchResult, IfOk, IfErr}
use Rattle.std.specs.Result.{IsErrAnd}

module _ {A E : Type 0} (value : A) where
  -- a value is kept with what is told of it, and so is a stop
  pub kept_both : (P : A → Type 0) (Q : E → Type 0) (ended : Result ⊤ E) (r : Result A E) → MatchResult r (λ x. (x ≡ value) × (ended ≡ Ok tt)) (λ e. ended ≡ Err e) → MatchResult ended (λ _. P value) Q → MatchResult r P Q
  kept_both P Q ended (Ok x) is h = subst P (sym is.0) (subst (λ (z : Result ⊤ E). MatchResult z (λ _. P value) Q) is.1 h)
  kept_both P Q ended (Err e) is h = subst (λ (z : Result ⊤ E). MatchResult z (λ _. P value) Q) is h

-- a stop that is passed on shows what was shown where it came from
pub passed : {A E : Type 0} (r : Result A E) (P : E → Type 0) (d : E) → IsErrAnd r (λ e. e ≡ d) → P d → IfErr r P
passed (Ok x) P d is h = tt
passed (Err e) P d is h = subst P (sym is) h

-- and so it is where a value would show something else
pub stopped : {A E : Type 0} (r : Result A E) (P : A → Type 0) (Q : E → Type 0) (d : E) → IsErrAnd r (λ e. e ≡ d) → Q d → MatchResult r P Q
stopped (Ok x) P Q d is h = absurd is
stopped (Err e) P Q d is h = subst Q (sym is) h

-- what holds where there is a value
pub with_value : {A E : Type 0} (r : Result A E) (P : A → Type 0) → ((x : A) → r ≡ Ok x → P x) → IfOk r P
with_value (Ok x) P h = h x refl
with_value (Err e) P h = tt

-- what was kept stands behind the list
pub kept_added : {A E : Type 0} (value : A) (ended : Result ⊤ E) (k : Result A E) (old new : List A) → MatchResult k (λ x. (x ≡ value) × (ended ≡ Ok tt)) (λ e. ended ≡ Err e) → (x : A) × (k ≡ Ok x) × (new ≡ old ++ x ∷ []) → (ended ≡ Ok tt) × (new ≡ old ++ value ∷ [])
kept_added value ended (Ok y) old new is (x, e, items) = let same : y ≡ x = cc in (is.1, subst (λ z. new ≡ old ++ z ∷ []) (sym same ∙ is.0) items)
kept_added value ended (Err d) old new is (x, e, items) = cc

-- a value that is there
pub value_added : {A E : Type 0} (value : A) (k : Result A E) (old new : List A) → k ≡ Ok value → (x : A) × (k ≡ Ok x) × (new ≡ old ++ x ∷ []) → new ≡ old ++ value ∷ []
value_added value k old new is (x, e, items) = let same : x ≡ value = cc in subst (λ z. new ≡ old ++ z ∷ []) same items

-- both values
pub both_made : {A B E : Type 0} (first : Result A E) (second : Result B E) (r : Result (A × B) E) (x : A × B) → MatchResult r (λ both. (first ≡ Ok both.0) × (second ≡ Ok both.1)) (λ stop. (first ≡ Err stop) ⊎ (second ≡ Err stop)) → r ≡ Ok x → (first ≡ Ok x.0) × (second ≡ Ok x.1)
both_made first second r x is e = MatchResult-at_ok _ _ x e is

-- a stop that is there
pub with_stop : {A E : Type 0} (r : Result A E) (Q : E → Type 0) → ((e : E) → r ≡ Err e → Q e) → IfErr r Q
with_stop (Ok x) Q h = tt
with_stop (Err e) Q h = h e refl

-- a value that is there, beside one that may be there
module _ {A B E : Type 0} (value : A) (k : Result A E) (made : Result B E) (r : Result (A × B) E) (at : k ≡ Ok value) (is : MatchResult r (λ both. (k ≡ Ok both.0) × (made ≡ Ok both.1)) (λ stop. (k ≡ Err stop) ⊎ (made ≡ Err stop))) where
  pub beside : (P : A × B → Type 0) (Q : E → Type 0) → ((x : A × B) → value ≡ x.0 → made ≡ Ok x.1 → P x) → ((e : E) → made ≡ Err e → Q e) → MatchResult r P Q
  beside P Q h none = MatchResult-from_both r P Q
      (with_value r P (λ x e.
      let first : (k ≡ Ok x.0) × (made ≡ Ok x.1) = both_made k made r x is e in
      let same : value ≡ x.0 = cc (at, first.0) in
      h x same first.1))
      (with_stop r Q (λ e was.
      let stop : (k ≡ Err e) ⊎ (made ≡ Err e) = MatchResult-at_err _ _ e was is in
      elim stop [
        | inl none' ↦ absurd (cc (at, none'))
        | inr there ↦ none e there
      ]))
