-- Where each state gives at most one tree, and outputs of a type.
use Rattle.std.proofs.Common.{ℕ, zero, suc, ◌≡◌, ◌⊎◌, ◌<◌, List, get_or, length, refl, sym, subst, ◌∙◌, inl, inr, arith}
use Rattle.model_tree.specs.Tree.{Tree, node, Trees, no_trees, tree}
use Rattle.model_sta.specs.Sets.{width, Fits, FitsAll}
use Rattle.model_sta.specs.Operations.{Auto, Has, HasAll, OfState}
use Rattle.model_sttr.specs.Terms.{Term, on, build, Parts, no_parts, part, part_count, Occurs, OccursIn, IsInstance, AreInstances, TermFits, PartsFit}
use Rattle.model_sttr.specs.Transducer.{Head, identity, run, Sttr, Trans, Gives, GivesAt, GivesSame, IsHead, IsFunctionalOn, IsPlainOn, MakesTyped}
use Rattle.model_sttr.specs.Operations.{AlikePairs, OfTransState, OfSources, OfOutputs, OfPairs, IsTransMadeOf, IsRestriction, IsOutRestriction, IsComposition}
use Rattle.model_sttr.proofs.Stands.{stands_in}
use Rattle.model_sttr.proofs.Heads.{identity_eq, state_there, one_head, one}

module _ {L : Type 0} (ranks : List ℕ) (D : L → Type 0) (f : Sttr L) where
  module _ (plain : IsPlainOn f D (Fits ranks D)) where
    mutual
      -- where the terms of rules that apply are the same, there is one output
      pub one_output : (t : Tree L) → Fits ranks D t → (h : Head) (u v : Tree L) → Gives f h t u → Gives f h t v → u ≡ v
      one_output t ty identity u v a b = sym (identity_eq f t u a) ∙ identity_eq f t v b
      one_output (node c l ts) ty (run q) u v a b =
          let (r, here, applies, i) = a in
          let (s, there, also, k) = b in
          one (λ h j w. GivesAt f h j ts w) l (λ h j x y gx gy. one_outputs ts ty.3 h j x y gx gy) r.term u v i
          (stands_in (λ h k. h ≡ k) D (λ h j w. GivesAt f h j ts w) (λ h j w. GivesAt f h j ts w) l ty.1 (λ h k j w e g. subst (λ n. GivesAt f n j ts w) (sym e) g) r.term s.term v (plain q r s here there (node c l ts) ty applies also) k)

      pub one_outputs : (ts : Trees L) → FitsAll ranks D ts → (h : Head) (j : ℕ) (u v : Tree L) → GivesAt f h j ts u → GivesAt f h j ts v → u ≡ v
      one_outputs no_trees ty h j u v a b = absurd a
      one_outputs (tree t ts) ty h zero u v a b = one_output t ty.0 h u v a b
      one_outputs (tree t ts) ty h (suc j) u v a b = one_outputs ts ty.1 h j u v a b

  module _ (into : List ℕ) (E : L → Type 0) (makes : MakesTyped f into D E) (same : GivesSame f → (t : Tree L) → Fits ranks D t → Fits into E t) where
    module _ (O : Head → ℕ → Tree L → Type 0) (l : L) (d : D l) where
      mutual
        -- an instance is of the type, where what is given on the children is
        instance_fits : (p : Term Head (L → L)) → TermFits into D E p → ((h : Head) (j : ℕ) (v : Tree L) → Occurs h j p → O h j v → Fits into E v) → (u : Tree L) → IsInstance O l p u → Fits into E u
        instance_fits (on h j) fit each u i = each h j u (refl, refl) i
        instance_fits (build c m ps) fit each (node c' l' us) i =
            (subst (λ n. n < length into) i.0 fit.0, subst E i.1 (fit.1 l d), sym (instance_width ps us i.2) ∙ (fit.2 ∙ subst (λ n. get_or into c 0 ≡ get_or into n 0) i.0 refl), instances_fit ps fit.3 each us i.2)

        instances_fit : (ps : Parts Head (L → L)) → PartsFit into D E ps → ((h : Head) (j : ℕ) (v : Tree L) → OccursIn h j ps → O h j v → Fits into E v) → (us : Trees L) → AreInstances O l ps us → FitsAll into E us
        instances_fit no_parts fit each no_trees i = tt
        instances_fit no_parts fit each (tree u us) i = absurd i
        instances_fit (part p ps) fit each no_trees i = absurd i
        instances_fit (part p ps) fit each (tree u us) i = (instance_fits p fit.0 (λ h j v o. each h j v (inl o)) u i.0, instances_fit ps fit.1 (λ h j v o. each h j v (inr o)) us i.1)

        instance_width : (ps : Parts Head (L → L)) (us : Trees L) → AreInstances O l ps us → part_count ps ≡ width us
        instance_width no_parts no_trees i = refl
        instance_width no_parts (tree u us) i = absurd i
        instance_width (part p ps) no_trees i = absurd i
        instance_width (part p ps) (tree u us) i = let e = instance_width ps us i.1 in omega (arith, e)

    mutual
      -- what a head gives on a tree of the type is of the other type
      pub output_fits : (t : Tree L) → Fits ranks D t → (h : Head) → (h ≡ identity → GivesSame f) → (u : Tree L) → Gives f h t u → Fits into E u
      output_fits t ty identity is u g = subst (Fits into E) (identity_eq f t u g) (same (is refl) t ty)
      output_fits (node c l ts) ty (run q) is u g =
          let (r, here, applies, i) = g in
          instance_fits (λ h j v. GivesAt f h j ts v) l ty.1 r.term (makes q r here)
          (λ h j v o. output_fits_at ts ty.3 h (λ e. (q, r, here, j, subst (λ k. Occurs k j r.term) e o)) j v) u i

      pub output_fits_at : (ts : Trees L) → FitsAll ranks D ts → (h : Head) → (h ≡ identity → GivesSame f) → (j : ℕ) (u : Tree L) → GivesAt f h j ts u → Fits into E u
      output_fits_at no_trees ty h is j u g = absurd g
      output_fits_at (tree t ts) ty h is zero u g = output_fits t ty.0 h is u g
      output_fits_at (tree t ts) ty h is (suc j) u g = output_fits_at ts ty.1 h is j u g

module _ {L : Type 0} (Typed : Tree L → Type 0) where
  -- what is the same pairs as a relation with at most one output has at most one
  one_by : (R S : Tree L → Tree L → Type 0) → AlikePairs Typed R S → ((t u v : Tree L) → Typed t → S t u → S t v → u ≡ v) → (t u v : Tree L) → Typed t → R t u → R t v → u ≡ v
  one_by R S same f t u v ty a b = f t u v ty ((same t u ty).0 a) ((same t v ty).0 b)

  -- a transducer made of such relations is functional
  made_functional : (Q : (Tree L → Type 0) → Type 0) (R : (Tree L → Tree L → Type 0) → Type 0) (S : Type 0) (c : Trans L) (P : Tree L → Tree L → Type 0) → IsTransMadeOf Typed Q R S c P
      → ((t u v : Tree L) → Typed t → P t u → P t v → u ≡ v) → ((q : ℕ) → R (Gives c.sttr (run q)) → (t u v : Tree L) → Typed t → Gives c.sttr (run q) t u → Gives c.sttr (run q) t v → u ≡ v) → IsFunctionalOn c.sttr Typed
  made_functional Q R S c P made start each q t u v ty a b = at (made.each_state q (state_there c.sttr q t u a))
    where
      at : (q ≡ c.start) ⊎ R (Gives c.sttr (run q)) → u ≡ v
      at (inl e) = one_by (Gives c.sttr (run c.start)) P made.means start t u v ty (subst (λ n. Gives c.sttr (run n) t u) e a) (subst (λ n. Gives c.sttr (run n) t v) e b)
      at (inr r) = each q r t u v ty a b

  module _ (f : Trans L) (fS : IsFunctionalOn f.sttr Typed) (c : Trans L) where
    pub restriction_functional : (a : Auto L) → IsRestriction Typed f a c → IsFunctionalOn c.sttr Typed
    restriction_functional a made =
        made_functional (λ P. OfState Typed f.sttr.looks P ⊎ OfState Typed a.rules P) (OfTransState Typed f.sttr) (GivesSame f.sttr) c (λ t u. Gives f.sttr (run f.start) t u × Has a.rules a.start t) made
        (λ t u v ty x y. fS f.start t u v ty x.0 y.0) (λ q r. one_by (Gives c.sttr (run q)) (Gives f.sttr (run r.0)) r.2 (fS r.0))

    pub out_restriction_functional : (a : Auto L) → IsOutRestriction Typed f a c → IsFunctionalOn c.sttr Typed
    out_restriction_functional a made =
        made_functional (λ P. OfState Typed f.sttr.looks P ⊎ OfSources Typed f.sttr a.rules P) (OfOutputs Typed f.sttr a.rules) (GivesSame f.sttr) c (λ t u. Gives f.sttr (run f.start) t u × Has a.rules a.start u) made
        (λ t u v ty x y. fS f.start t u v ty x.0 y.0)
        (λ q r. one_by (Gives c.sttr (run q)) (λ t u. Gives f.sttr r.head t u × HasAll a.rules r.all u) r.same (λ t u v ty x y. one_head f.sttr Typed fS r.head t u v ty x.0 y.0))

    module _ (Into : Tree L → Type 0) (typed : (h : Head) → IsHead f.sttr h → (t u : Tree L) → Typed t → Gives f.sttr h t u → Into u) (g : Trans L) (fT : IsFunctionalOn g.sttr Into) where
      -- through one tree to one tree
      two_heads : (h : Head) → IsHead f.sttr h → (k : Head) (t m n u v : Tree L) → Typed t → Gives f.sttr h t m → Gives f.sttr h t n → Gives g.sttr k m u → Gives g.sttr k n v → u ≡ v
      two_heads h is k t m n u v ty a b x y = one_head g.sttr Into fT k m u v (typed h is t m ty a) x (subst (λ z. Gives g.sttr k z v) (one_head f.sttr Typed fS h t n m ty b a) y)

      pub composition_functional : IsComposition Typed f g c → IsFunctionalOn c.sttr Typed
      composition_functional made =
          made_functional (λ P. OfState Typed f.sttr.looks P ⊎ OfSources Typed f.sttr g.sttr.looks P) (OfPairs Typed f.sttr g.sttr) (GivesSame f.sttr × GivesSame g.sttr) c (λ t w. (u : Tree L) × Gives f.sttr (run f.start) t u × Gives g.sttr (run g.start) u w) made
          (λ t u v ty x y. let (m, a, p) = x in let (n, b, q) = y in two_heads (run f.start) (state_there f.sttr f.start t m a) (run g.start) t m n u v ty a b p q)
          (λ q r. one_by (Gives c.sttr (run q)) (λ t w. (u : Tree L) × Gives f.sttr r.first t u × HasAll g.sttr.looks r.all u × Gives g.sttr r.second u w) r.same
          (λ t u v ty x y. let (m, a, has, p) = x in let (n, b, has', q') = y in two_heads r.first r.is_first r.second t m n u v ty a b p q'))
