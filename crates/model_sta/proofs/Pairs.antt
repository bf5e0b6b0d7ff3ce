-- Two lists, place by place.
use Rattle.std.proofs.Common.{ℕ, ◌≡◌, ◌≤◌, ◌<◌, ◌+◌, get_or, ◌++◌, List, [], ◌∷◌, map, length, take, sym, ap, subst, subst₂, ◌∙◌, take_all}
use Rattle.std.proofs.lemmas.List.{take_more, map-append}
use Rattle.model_sta.specs.Pairwise.{Pairwise}

module _ {X Y : Type 0} (R : X → Y → Type 0) where
  pub pairwise_append : (xs us : List X) (ys vs : List Y) → Pairwise R xs ys → Pairwise R us vs → Pairwise R (xs ++ us) (ys ++ vs)
  pairwise_append [] us [] vs h k = k
  pairwise_append [] us (y ∷ ys) vs h k = absurd h
  pairwise_append (x ∷ xs) us [] vs h k = absurd h
  pairwise_append (x ∷ xs) us (y ∷ ys) vs h k = (h.0, pairwise_append xs us ys vs h.1 k)

  -- one more of a list that a loop goes over
  pub pairwise_more : {U W : Type 0} (g : U → X) (f : W → Y) (before after : List U) (u : U) (ws : List W) (i : ℕ) (w : W) → i < length ws → w ≡ get_or ws i w → after ≡ before ++ u ∷ [] → R (g u) (f w)
      → Pairwise R (map g before) (map f (take i ws)) → Pairwise R (map g after) (map f (take (i + 1) ws))
  pairwise_more g f before after u ws i w low at is r h =
      subst₂ (Pairwise R) (sym (ap (map g) is ∙ map-append g before (u ∷ [])))
      (sym (ap (map f) (take_more ws i w low ∙ ap (λ z. take i ws ++ z ∷ []) (sym at)) ∙ map-append f (take i ws) (w ∷ [])))
      (pairwise_append (map g before) (g u ∷ []) (map f (take i ws)) (f w ∷ []) h (r, tt))

  pub pairwise_done : {U W : Type 0} (g : U → X) (f : W → Y) (us : List U) (ws : List W) (i : ℕ) → length ws ≤ i → Pairwise R (map g us) (map f (take i ws)) → Pairwise R (map g us) (map f ws)
  pairwise_done g f us ws i high h = subst (λ z. Pairwise R (map g us) (map f z)) (take_all i ws high) h
