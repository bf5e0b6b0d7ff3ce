-- From a middle tree to a run.
use Rattle.std.proofs.Common.{ℕ, zero, suc, ◌+◌, ◌≡◌, ◌<◌, List, [], ◌∷◌, ◌++◌, refl, sym, ap, ap₂, subst, subst₂, inr, arith}
use Rattle.model_tree.specs.Tree.{Tree, node, Trees, no_trees, tree}
use Rattle.model_sta.specs.Automaton.{Rule}
use Rattle.model_sta.specs.Sets.{width}
use Rattle.model_sta.specs.Operations.{HasAll, Has}
use Rattle.model_sttr.specs.Terms.{Term, on, build, Parts, no_parts, part, IsInstance, AreInstances}
use Rattle.model_sttr.specs.Transducer.{Head, identity, run, Sttr, Gives, GivesAt}
use Rattle.model_sttr.proofs.Instances.{instance_map}
use Rattle.model_sttr.proofs.Heads.{identity_eq}
use Rattle.sttr_theory.specs.Lists.{once}
use Rattle.sttr_theory.specs.Built.{kept}
use Rattle.sttr_theory.specs.Ways.{size}
use Rattle.sttr_theory.proofs.Accept.{wants, AccEach, acc_both, acc_none, applies_out, has_out}
use Rattle.sttr_theory.proofs.Once.{each_once_in}
use Rattle.sttr_theory.proofs.Runs.{Aim, free, gives, Meets, Fit, Kid, kid_in, Picks, merged, copy, Step, Run, RunAt}

-- rules can be picked for all states that accept a node
pub picked : {L : Type 0} (A : List (List (Rule L))) (c : ℕ) (l : L) (us : Trees L) (Z : List ℕ) → HasAll A Z (node c l us)
    → (rs : List (Rule L)) × Picks A c l Z rs × AccEach A (merged rs) us
picked A c l us [] acc = ([], tt, acc_none A us)
picked A c l us (s ∷ Z) acc =
    let (r, here, fires, kids) = has_out A c l us s acc.0 in
    let (rs, picks, rest) = picked A c l us Z acc.1 in
    (r ∷ rs, (here, fires, picks), acc_both A (wants r) (merged rs) us kids rest)

pub identity_refl : {L : Type 0} (S : Sttr L) (t : Tree L) → Gives S identity t t
identity_refl S (node c l ts) = refl

-- as many parts as trees
pub instances_width : {L : Type 0} (K : Head → ℕ → Tree L → Type 0) (l : L) (ps : Parts Head (L → L)) (us : Trees L) → AreInstances K l ps us → size ps ≡ width us
instances_width K l no_parts no_trees a = refl
instances_width K l no_parts (tree u us) a = absurd a
instances_width K l (part p ps) no_trees a = absurd a
instances_width K l (part p ps) (tree u us) a = ap suc (instances_width K l ps us a.1)

module _ {L : Type 0} (T : Sttr L) (O : Head → ℕ → Tree L → Type 0) (l : L) where
  -- the kept parts have the trees themselves as an instance
  pub kept_self : (us : Trees L) (i : ℕ) → ((j : ℕ) (v : Tree L) → GivesAt T identity j us v → (k : ℕ) → k ≡ j + i → O identity k v) → AreInstances O l (kept i (width us)) us
  kept_self no_trees i g = tt
  kept_self (tree u us) i g = (g 0 u (identity_refl T u) i (omega arith), kept_self us (suc i) (λ j v x k e. g (suc j) v x k (omega (arith, e))))

  -- and no other
  pub kept_back : (us ws : Trees L) (i : ℕ) → ((j : ℕ) (v : Tree L) (k : ℕ) → k ≡ j + i → O identity k v → GivesAt T identity j us v) → AreInstances O l (kept i (width us)) ws → us ≡ ws
  kept_back no_trees no_trees i g x = refl
  kept_back no_trees (tree w ws) i g x = absurd x
  kept_back (tree u us) no_trees i g x = absurd x
  kept_back (tree u us) (tree w ws) i g x =
      ap₂ tree (identity_eq T u w (g 0 w i (omega arith) x.0)) (kept_back us ws (suc i) (λ j v k e. g (suc j) v k (omega (arith, e))) x.1)

  -- so a node with kept children gives the tree itself, where the identity gives the children
  pub copy_in : (c : ℕ) (us : Trees L) (w : Tree L) → ((j : ℕ) (v : Tree L) → GivesAt T identity j us v → O identity j v) → node c l us ≡ w → IsInstance O l (copy c (width us)) w
  copy_in c us w g e = subst (IsInstance O l (copy c (width us))) e (refl, refl, kept_self us 0 (λ j v x k e'. subst (λ n. O identity n v) (omega (arith, e')) (g j v x)))

  pub copy_out : (c : ℕ) (us : Trees L) (w : Tree L) → ((j : ℕ) (v : Tree L) → O identity j v → GivesAt T identity j us v) → IsInstance O l (copy c (width us)) w → node c l us ≡ w
  copy_out c us (node d m ws) g i =
      let e = kept_back us ws 0 (λ j v k e x. g j v (subst (λ n. O identity n v) (omega (arith, e)) x)) i.2 in
      λ k. node (i.0 k) (i.1 k) (e k)

module _ {L : Type 0} (T : Sttr L) (c : ℕ) (l : L) (us : Trees L) (K : Head → ℕ → Tree L → Type 0) (l0 : L) (ps : Parts Head (L → L)) (O : ℕ → List ℕ → Aim L → Type 0) where
  -- the second's own step at a middle node
  pub step_complete : AreInstances K l0 ps us
      → ((E : ℕ → List ℕ) → AccEach T.looks E us → (j : ℕ) (h : Head) (v : Tree L) → GivesAt T h j us v → O j (E j) (gives h v))
      → ((E : ℕ → List ℕ) → AccEach T.looks E us → (j : ℕ) → j < size ps → O j (E j) free)
      → (E : ℕ → List ℕ) → AccEach T.looks E us → (a : Aim L) → Meets T a (node c l us) → Step T c l O (size ps) E a
  step_complete i given plain E acc free m = plain E acc
  step_complete i given plain E acc (gives identity w) m =
      subst (λ n. IsInstance (λ h j v. O j (E j) (gives h v)) l (copy c n) w) (sym (instances_width K l0 ps us i))
      (copy_in T (λ h j v. O j (E j) (gives h v)) l c us w (λ j v r. given E acc j identity v r) m)
  step_complete i given plain E acc (gives (run q) w) m =
      let (r, here, applies, inst) = m in
      let (fires, kids) = applies_out T.looks c l us r.rule applies in
      let both = acc_both T.looks E (wants r.rule) us acc kids in (
        r,
        here,
        fires,
        (λ j lt. inr (plain (λ k. E k ++ wants r.rule k) both j lt)),
        instance_map (λ h j v. GivesAt T h j us v) (λ h j v. O j (E j ++ wants r.rule j) (gives h v)) l
            (λ h j v. given (λ k. E k ++ wants r.rule k) both j h v) r.term w inst,
      )

module _ {L : Type 0} (T : Sttr L) (K : Head → ℕ → Tree L → Type 0) (l : L) where
  mutual
    -- a middle tree that is an instance of the term leads to a run
    pub complete : (p : Term Head (L → L)) (Z : List ℕ) (a : Aim L) (u : Tree L) → IsInstance K l p u → Fit T Z a u → Run T (Kid T K) l p Z a
    complete (on h j) Z a u i fit = kid_in T K h Z a j u i fit
    complete (build c m ps) Z a (node c' l' us) i fit =
        let fit' : Fit T Z a (node c (m l) us) = subst₂ (λ x y. Fit T Z a (node x y us)) (sym i.0) (sym i.1) fit in
        let (rs, picks, acc) = picked T.looks c (m l) us (once Z) (each_once_in (λ s. Has T.looks s (node c (m l) us)) Z fit'.0) in (
          rs,
          picks,
          step_complete T c (m l) us K l ps (λ j Z' a'. RunAt T (Kid T K) l j ps Z' a') i.2
              (λ E acc' j h v r. complete_given ps us E i.2 acc' j h v r)
              (λ E acc' j lt. complete_free ps us E i.2 acc' j lt)
              (merged rs) acc a fit'.1,
        )

    pub complete_given : (ps : Parts Head (L → L)) (us : Trees L) (E : ℕ → List ℕ)
        → AreInstances K l ps us → AccEach T.looks E us → (j : ℕ) (h : Head) (v : Tree L) → GivesAt T h j us v → RunAt T (Kid T K) l j ps (E j) (gives h v)
    complete_given no_parts no_trees E i acc j h v r = r
    complete_given no_parts (tree u us) E i acc j h v r = i
    complete_given (part p ps) no_trees E i acc j h v r = absurd i
    complete_given (part p ps) (tree u us) E i acc zero h v r = complete p (E 0) (gives h v) u i.0 (acc.0, r)
    complete_given (part p ps) (tree u us) E i acc (suc j) h v r = complete_given ps us (λ k. E (suc k)) i.1 acc.1 j h v r

    pub complete_free : (ps : Parts Head (L → L)) (us : Trees L) (E : ℕ → List ℕ)
        → AreInstances K l ps us → AccEach T.looks E us → (j : ℕ) → j < size ps → RunAt T (Kid T K) l j ps (E j) free
    complete_free no_parts no_trees E i acc j lt = absurd (omega arith)
    complete_free no_parts (tree u us) E i acc j lt = i
    complete_free (part p ps) no_trees E i acc j lt = absurd i
    complete_free (part p ps) (tree u us) E i acc zero lt = complete p (E 0) free u i.0 (acc.0, tt)
    complete_free (part p ps) (tree u us) E i acc (suc j) lt = complete_free ps us (λ k. E (suc k)) i.1 acc.1 j (omega arith)
