-- What heads give: the identity the tree itself, and a state only where it is there; one instance where children have one.
use Rattle.std.proofs.Common.{ℕ, zero, suc, ◌≡◌, ◌<◌, List, [], ◌∷◌, get_or, length, Contains, sym, subst, ap₂, ◌∙◌, arith, refl}
use Rattle.model_tree.specs.Tree.{Tree, node, Trees, no_trees, tree}
use Rattle.model_sttr.specs.Terms.{Term, on, build, Parts, no_parts, part, IsInstance, AreInstances}
use Rattle.model_sttr.specs.Transducer.{Head, identity, run, Sttr, Gives, GivesSame, IsHead, IsFunctionalOn}

pub identity_eq : {L : Type 0} (f : Sttr L) (t u : Tree L) → Gives f identity t u → t ≡ u
identity_eq f (node c l ts) u e = e

-- no element of a list of lists has any where the list has ended
pub in_range : {X : Type 0} (xss : List (List X)) (q : ℕ) (x : X) → Contains (get_or xss q []) x → q < length xss
in_range [] q x (k, lt, e) = absurd (omega arith)
in_range (xs ∷ xss) zero x c = omega arith
in_range (xs ∷ xss) (suc q) x c = let b = in_range xss q x c in omega arith

pub state_there : {L : Type 0} (f : Sttr L) (q : ℕ) (t u : Tree L) → Gives f (run q) t u → q < length f.rules
state_there f q (node c l ts) u g = in_range f.rules q g.0 g.1

-- on trees of a type each head of a functional transducer gives at most one tree
pub one_head : {L : Type 0} (f : Sttr L) (Typed : Tree L → Type 0) → IsFunctionalOn f Typed → (h : Head) (t u v : Tree L) → Typed t → Gives f h t u → Gives f h t v → u ≡ v
one_head f Typed functional identity t u v ty a b = sym (identity_eq f t u a) ∙ identity_eq f t v b
one_head f Typed functional (run q) t u v ty a b = functional q t u v ty a b

module _ {L : Type 0} (K : Head → ℕ → Tree L → Type 0) (l : L) (only : (h : Head) (j : ℕ) (u v : Tree L) → K h j u → K h j v → u ≡ v) where
  mutual
    -- where no head gives two trees on a child, a term has one instance
    pub one : (p : Term Head (L → L)) (u v : Tree L) → IsInstance K l p u → IsInstance K l p v → u ≡ v
    one (on h j) u v a b = only h j u v a b
    one (build c m ps) (node c1 l1 us) (node c2 l2 vs) a b =
        let e : us ≡ vs = ones ps us vs a.2 b.2 in
        let e1 : c1 ≡ c2 = subst (λ x. x ≡ c2) a.0 b.0 in
        let e2 : l1 ≡ l2 = subst (λ x. x ≡ l2) a.1 b.1 in
        λ i. node (e1 i) (e2 i) (e i)

    ones : (ps : Parts Head (L → L)) (us vs : Trees L) → AreInstances K l ps us → AreInstances K l ps vs → us ≡ vs
    ones no_parts no_trees no_trees a b = refl
    ones no_parts no_trees (tree v vs) a b = absurd b
    ones no_parts (tree u us) vs a b = absurd a
    ones (part p ps) no_trees vs a b = absurd a
    ones (part p ps) (tree u us) no_trees a b = absurd b
    ones (part p ps) (tree u us) (tree v vs) a b = ap₂ tree (one p u v a.0 b.0) (ones ps us vs a.1 b.1)

pub as_identity : {L : Type 0} (f : Sttr L) (h : Head) → IsHead f h → h ≡ identity → GivesSame f
as_identity f identity is e = is
as_identity f (run q) is e = cc

pub as_run : {L : Type 0} (f : Sttr L) (q : ℕ) → run q ≡ identity → GivesSame f
as_run f q e = cc
