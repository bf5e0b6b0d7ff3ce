-- Lists that are made element by element.
use Rattle.std.proofs.Common.{◌≡◌, ℕ, ◌+◌, ◌<◌, ◌≤◌, List, [], ◌∷◌, ◌++◌, length, map, take, get_or, sym, ap, ap₂, ◌∙◌}
use Rattle.std.proofs.lemmas.List.{take_all, map-append}
use Rattle.program_check.proofs.Numbering.{take_at}

pub made_more : {A B D : Type 0} (f : A → D) (g : B → D) (old new : List A) (x : A) (all : List B) (i : ℕ) (y : B) → new ≡ old ++ x ∷ [] → f x ≡ g y
    → i < length all → y ≡ get_or all i y → map f old ≡ map g (take i all) → map f new ≡ map g (take (i + 1) all)
made_more f g old new x all i y more is low at so_far =
    ap (map f) more ∙ map-append f old (x ∷ []) ∙ ap₂ (λ l v. l ++ v ∷ []) so_far is
    ∙ sym (ap (map g) (take_at all i y low at) ∙ map-append g (take i all) (y ∷ []))

pub made_all : {A B D : Type 0} (f : A → D) (g : B → D) (made : List A) (all : List B) (i : ℕ) → length all ≤ i → map f made ≡ map g (take i all) → map f made ≡ map g all
made_all f g made all i end so_far = so_far ∙ ap (map g) (take_all i all end)
