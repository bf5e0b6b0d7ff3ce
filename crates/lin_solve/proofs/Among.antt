-- Lists of which some element is so, as elements are pushed and popped.
use Rattle.std.proofs.Common.{◌≡◌, ◌⊎◌, inl, inr, zero, suc, List, [], ◌∷◌, ◌++◌, refl, sym, subst, arith}
use Rattle.std.specs.List.{Contains}
use Rattle.std.proofs.lemmas.List.Elements.{Contains-append_left, Contains-append_right, Contains-append_cases}
use Rattle.lin_solve.specs.Among.{SomeOf}

module _ {X : Type 0} {P : X → Type 0} where
  pub some_grown : (old new : List X) (x : X) → new ≡ old ++ x ∷ [] → SomeOf P old → SomeOf P new
  some_grown old new x e s = record { own = s.own; among = subst (λ xs. Contains xs s.own) (sym e) (Contains-append_left old (x ∷ []) s.own s.among); has = s.has }

  pub some_added : (old new : List X) (x : X) → new ≡ old ++ x ∷ [] → P x → SomeOf P new
  some_added old new x e h = record { own = x; among = subst (λ xs. Contains xs x) (sym e) (Contains-append_right old (x ∷ []) x (0, omega arith, refl)); has = h }

  pub some_popped : (old rest : List X) (x : X) → old ≡ rest ++ x ∷ [] → SomeOf P old → P x ⊎ SomeOf P rest
  some_popped old rest x e s = by (Contains-append_cases rest (x ∷ []) s.own (subst (λ xs. Contains xs s.own) e s.among))
    where
      own : Contains (x ∷ []) s.own → x ≡ s.own
      own (zero, l, is) = is
      own (suc k, l, is) = absurd (omega arith)

      by : Contains rest s.own ⊎ Contains (x ∷ []) s.own → P x ⊎ SomeOf P rest
      by (inl at) = inr (record { own = s.own; among = at; has = s.has })
      by (inr at) = inl (subst P (sym (own at)) s.has)
