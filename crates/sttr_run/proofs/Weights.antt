-- How large terms are.
use Rattle.std.proofs.Common.{ℕ, zero, suc, ◌+◌, ◌<◌, ◌≤◌, ◌≡◌, List, [], ◌∷◌, map, drop, get_or, length, Contains, Vec, Global, All, inl, inr, refl, sym, subst, ap, ◌∙◌, arith}
use Rattle.std.specs.Prelude.{Option, Some, None}
use Rattle.std.specs.Option.{option_map}
use Rattle.model_sttr.specs.Guards.{MakesBy, MakesByOne}
use Rattle.model_sttr.specs.Terms.{Term, on, build, Parts, no_parts, part, Occurs, OccursIn, with_maps, parts_with_maps}
use Rattle.model_sttr.specs.Transducer.{Head, identity}
use Rattle.sttr_core.specs.Terms.{plain_term}
use Rattle.sttr_core.specs.declared.term.Term.{Term as Written}
use Rattle.sttr_core.specs.declared.term.Term.TheVariants.{Node}
use Rattle.sttr_core.specs.Machine.{OutMachine}
use Rattle.sttr_core.proofs.Parts as core
use Rattle.sttr_theory.proofs.Members.{to_mapped}
use Rattle.sttr_run.specs.Drafts.{parts_of}
use Rattle.sttr_run.specs.Found.{IsWithin, IsNodeIn, MayRun}
use Rattle.sttr_run.proofs.Members.{nil_out, cons_out, all_of}

module _ {H M : Type 0} where
  abbrev mutual
    pub weight : Term H M → ℕ
    weight (on h j) = 0
    weight (build c m ps) = suc (weight_in ps)

    weight_in : Parts H M → ℕ
    weight_in no_parts = 0
    weight_in (part p ps) = weight p + weight_in ps

  -- of terms together
  abbrev pub weights : List (Term H M) → ℕ
  weights [] = 0
  weights (p ∷ ps) = weight p + weights ps

  same_weight : (ps : List (Term H M)) → weight_in (parts_of ps) ≡ weights ps
  same_weight [] = refl
  same_weight (p ∷ ps) = ap (λ n. weight p + n) (same_weight ps)

  pub one_weight : (ps : List (Term H M)) (p : Term H M) → Contains ps p → weight p ≤ weights ps
  one_weight [] p at = absurd (nil_out p at)
  one_weight (q ∷ ps) p at = elim (cons_out q ps p at) [
    | inl e ↦ (let s = ap weight e in omega (arith, s))
    | inr later ↦ (let h = one_weight ps p later in omega (arith, h))
  ]

  makes_in : (ps : List (Term H M)) (n : M) (p : Term H M) → Contains ps p → MakesBy p n → MakesByOne (parts_of ps) n
  makes_in [] n p at by = absurd (nil_out p at)
  makes_in (q ∷ ps) n p at by = elim (cons_out q ps p at) [ inl e ↦ inl (subst (λ x. MakesBy x n) (sym e) by) | inr later ↦ inr (makes_in ps n p later by) ]

  occurs_in : (ps : List (Term H M)) (h : H) (j : ℕ) (p : Term H M) → Contains ps p → Occurs h j p → OccursIn h j (parts_of ps)
  occurs_in [] h j p at o = absurd (nil_out p at)
  occurs_in (q ∷ ps) h j p at o = elim (cons_out q ps p at) [ inl e ↦ inl (subst (λ x. Occurs h j x) (sym e) o) | inr later ↦ inr (occurs_in ps h j p later o) ]

parts_same : {H M : Type 0} (ps : List (Term H M)) → core.parts_of ps ≡ parts_of ps
parts_same [] = refl
parts_same (p ∷ ps) = ap (part p) (parts_same ps)

module _ {M : Type 0} where
  -- a written node
  pub written_node : (t : Written M) (c : ℕ) (m : M) (v : Vec (Written M) Global) → t ≡ Node c m v → plain_term t ≡ build c m (parts_of (map plain_term v.items))
  written_node t c m v e = ap plain_term e ∙ ap (build c m) (core.parts_are v ∙ parts_same (map plain_term v.items))

  pub node_weight : (t : Written M) (c : ℕ) (m : M) (v : Vec (Written M) Global) (ps : List (Written M)) → t ≡ Node c m v → ps ≡ v.items → weight (plain_term t) ≡ suc (weights (map plain_term ps))
  node_weight t c m v ps e f = ap weight (written_node t c m v e) ∙ ap suc (same_weight (map plain_term v.items) ∙ ap (λ qs. weights (map plain_term qs)) (sym f))

  -- a node of a term that is within the whole
  pub node_in : (top : Term Head M) (t : Written M) (c : ℕ) (m : M) (v : Vec (Written M) Global) (ps : List (Written M)) → t ≡ Node c m v → ps ≡ v.items → IsWithin top (plain_term t) → IsNodeIn top m (map plain_term ps)
  node_in top t c m v ps e f within = record {
    label = within m (subst (λ x. MakesBy x m) (sym (written_node t c m v e)) (inl refl));
    within = all_of (IsWithin top) (map plain_term ps) (λ p at n by. within n (subst (λ x. MakesBy x n) (sym (written_node t c m v e)) (inr (makes_in (map plain_term v.items) n p (subst (λ qs. Contains (map plain_term qs) p) f at) by))));
  }

  -- the parts of a term of the second
  pub parts_run : {A : Type 0} (second : OutMachine A M) (t : Written M) (c : ℕ) (m : M) (v : Vec (Written M) Global) (ps : List (Written M)) → t ≡ Node c m v → ps ≡ v.items → MayRun second (plain_term t) → All (λ p. MayRun second (plain_term p)) ps
  parts_run second t c m v ps e f may = all_of (λ p. MayRun second (plain_term p)) ps (λ p at. record {
    maps = λ n by. may.maps n (subst (λ x. MakesBy x n) (sym (written_node t c m v e)) (inr (makes_in (map plain_term v.items) n (plain_term p) (to_mapped plain_term v.items p (subst (λ qs. Contains qs p) f at)) by)));
    same = λ j o. may.same j (subst (λ x. Occurs identity j x) (sym (written_node t c m v e)) (occurs_in (map plain_term v.items) identity j (plain_term p) (to_mapped plain_term v.items p (subst (λ qs. Contains qs p) f at)) o));
  })

module _ {H M N : Type 0} (f : M → N) where
  pub meant_is : (ps : List (Term H M)) → parts_with_maps f (parts_of ps) ≡ parts_of (map (with_maps f) ps)
  meant_is [] = refl
  meant_is (p ∷ ps) = ap (part (with_maps f p)) (meant_is ps)

-- a node over labels
pub node_meant : {M N : Type 0} (f : M → N) (t : Written M) (c : ℕ) (m : M) (v : Vec (Written M) Global) (ps : List (Written M)) → t ≡ Node c m v → ps ≡ v.items → with_maps f (plain_term t) ≡ build c (f m) (parts_of (map (with_maps f) (map plain_term ps)))
node_meant f t c m v ps e same = ap (with_maps f) (written_node t c m v e) ∙ ap (build c (f m)) (meant_is f (map plain_term v.items) ∙ ap (λ qs. parts_of (map (with_maps f) (map plain_term qs))) (sym same))

-- one element of a list that is gone through from the end
pub dropped : {X Y : Type 0} (f : X → Y) (xs : List X) (i : ℕ) (x : X) → i < length xs → x ≡ get_or xs i x → drop i (map f xs) ≡ f x ∷ drop (suc i) (map f xs)
dropped f [] i x low is = absurd (omega (arith, low))
dropped f (y ∷ xs) zero x low is = ap (λ z. f z ∷ map f xs) (sym is)
dropped f (y ∷ xs) (suc i) x low is = dropped f xs i x (omega (arith, low)) is

pub fused : {X Y Z : Type 0} (f : Y → Z) (g : X → Y) (o : Option X) → option_map f (option_map g o) ≡ option_map (λ x. f (g x)) o
fused f g None = refl
fused f g (Some x) = refl

pub mapped_length : {X Y : Type 0} (f : X → Y) (xs : List X) → length (map f xs) ≡ length xs
mapped_length f [] = refl
mapped_length f (x ∷ xs) = ap suc (mapped_length f xs)

pub some_dropped : {X : Type 0} (xs : List X) (i : ℕ) → i < length xs → (x : X) × (drop i xs ≡ x ∷ drop (suc i) xs)
some_dropped [] i low = absurd (omega (arith, low))
some_dropped (x ∷ xs) zero low = (x, refl)
some_dropped (x ∷ xs) (suc i) low = some_dropped xs i (omega (arith, low))

pub map_at : {X Y : Type 0} (f : X → Y) (xs : List X) (i : ℕ) (x : X) → i < length xs → x ≡ get_or xs i x → (i < length (map f xs)) × (get_or (map f xs) i (f x) ≡ f x)
map_at f [] i x low is = absurd (omega (arith, low))
map_at f (y ∷ xs) zero x low is = (omega arith, ap f (sym is))
map_at f (y ∷ xs) (suc i) x low is = let both = map_at f xs i x (omega (arith, low)) is in (omega (arith, both.0), both.1)
