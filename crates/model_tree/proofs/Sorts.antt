-- Values have sorts exactly where these are the values' own sorts.
use Rattle.std.proofs.Common.{◌≡◌, true, ◌&&◌, List, [], ◌∷◌, map, refl, ap, sym, ◌∙◌}
use Rattle.std.proofs.lemmas.Bool.{and_parts}
use Rattle.model_tree.specs.Label.{Field, whole, truth, text}
use Rattle.model_tree.specs.Signature.{Sort, wholes, truths, texts, sort_of, has_sort, have_sorts}

own_sort : (s : Sort) (f : Field) → has_sort s f ≡ true → sort_of f ≡ s
own_sort wholes (whole n) h = refl
own_sort truths (truth b) h = refl
own_sort texts (text t) h = refl
own_sort s f h = cc

pub has_own_sort : (f : Field) → has_sort (sort_of f) f ≡ true
has_own_sort (whole n) = refl
has_own_sort (truth b) = refl
has_own_sort (text t) = refl

pub own_sorts : (sorts : List Sort) (values : List Field) → have_sorts sorts values ≡ true → map sort_of values ≡ sorts
own_sorts [] [] h = refl
own_sorts [] (f ∷ fs) h = cc
own_sorts (s ∷ ss) [] h = cc
own_sorts (s ∷ ss) (f ∷ fs) h = let two = and_parts (has_sort s f) (have_sorts ss fs) h in λ i. own_sort s f two.0 i ∷ own_sorts ss fs two.1 i

pub have_own_sorts : (values : List Field) → have_sorts (map sort_of values) values ≡ true
have_own_sorts [] = refl
have_own_sorts (f ∷ fs) = λ i. has_own_sort f i && have_own_sorts fs i

pub have_these_sorts : (sorts : List Sort) (values : List Field) → map sort_of values ≡ sorts → have_sorts sorts values ≡ true
have_these_sorts sorts values e = ap (λ ss. have_sorts ss values) (sym e) ∙ have_own_sorts values
