-- Ways that cover the lists of ways are the ways.
use Rattle.std.specs.Prelude.{⊤}
use Rattle.std.proofs.Common.{ℕ, ◌≡◌, ◌⊎◌, inl, inr, true, false, List, [], ◌++◌, get_or, Contains, Option, Some, None, refl, sym, subst, ◌∙◌}
use Rattle.model_tree.specs.Tree.{Tree, Trees}
use Rattle.model_sta.specs.Operations.{Has}
use Rattle.model_sta.specs.Sets.{Each}
use Rattle.model_sttr.specs.Terms.{Term, on, build, Parts, no_parts, part, StandsFor, StandFor}
use Rattle.model_sttr.specs.Transducer.{Head, Sttr, GivesAt}
use Rattle.model_sttr.proofs.Stands.{stands_in}
use Rattle.sttr_theory.specs.Alike.{SameName, SameTriple, SameTerm, AlikeWay}
use Rattle.sttr_theory.specs.Covers.{Never}
use Rattle.sttr_theory.specs.Triples.{Triple, Way, LookName, of_first, of_second, middle, asked, At, Means, Ends, ThroughAt, Yields, Works, AreWays}
use Rattle.sttr_theory.proofs.Alike.{covers_are_ways}
use Rattle.sttr_theory.proofs.Covers.{covers_match}
use Rattle.sttr_theory.proofs.Asked.{at_map}
use Rattle.sttr_theory.proofs.Each.{each_at, each_all}
use Rattle.sttr_theory.proofs.Members.{in_either, in_left, in_right}
use Rattle.sttr_run.specs.Drafts.{AreAmong, FollowsFrom, IsFreer}

-- the term of the one stands for that of the other
abbrev pub TermStands : {L : Type 0} → (Triple → Triple → Type 0) → (L → Type 0) → Option (Term Triple (L → L)) → Option (Term Triple (L → L)) → Type 0
TermStands R D None None = ⊤
TermStands R D None (Some q) = ⊥
TermStands R D (Some p) None = ⊥
TermStands R D (Some p) (Some q) = StandsFor R D p q

-- the way follows from the other
pub record Follows {L : Type 0} (D : L → Type 0) (w z : Way L) : Type 0 where
  pub guard : (l : L) → D l → z.guard l ≡ true → w.guard l ≡ true
  pub asks : (j : ℕ) (n : LookName) → Contains (asked (get_or w.demands j [])) n → (m : LookName) × Contains (asked (get_or z.demands j [])) m × FollowsFrom n m
  pub freer_term : TermStands IsFreer D w.term z.term

same_self : (n : LookName) → SameName n n
same_self (of_first s) = refl
same_self (of_second s) = refl
same_self (middle q Z) = (Z, refl, (λ s a. a, λ s a. a))

module _ {L : Type 0} (D : L → Type 0) where
  mutual
    term_self : (p : Term Triple (L → L)) → StandsFor SameTriple D p p
    term_self (on x j) = ((refl, (λ s a. a, λ s a. a), refl), refl)
    term_self (build c m ps) = (refl, (λ l d. refl), parts_self ps)

    parts_self : (ps : Parts Triple (L → L)) → StandFor SameTriple D ps ps
    parts_self no_parts = tt
    parts_self (part p ps) = (term_self p, parts_self ps)

  opt_self : (o : Option (Term Triple (L → L))) → SameTerm D o o
  opt_self None = tt
  opt_self (Some p) = term_self p

  way_self : (z : Way L) → AlikeWay D z z
  way_self z = record {
    same_guard = λ l d. refl;
    same_demands = λ j. (λ n at. (n, at, same_self n), λ n at. (n, at, same_self n));
    same_term = opt_self z.term;
  }

module _ {L : Type 0} (f g : Sttr L) where
  fewer : (P : ℕ → Type 0) (Z W : List ℕ) → AreAmong Z W → Each P W → Each P Z
  fewer P Z W among e = each_all P Z (λ s at. each_at P W s e (among s at))

  means : (n m : LookName) → FollowsFrom n m → (t : Tree L) → Means f g m t → Means f g n t
  means (of_first s) m e t x = subst (λ n. Means f g n t) (sym e) x
  means (of_second s) m e t x = subst (λ n. Means f g n t) (sym e) x
  means (middle q Z) m (W, e, among) t x = let (u, gives, has) = subst (λ n. Means f g n t) (sym e) x in (u, gives, fewer (λ s. Has g.looks s u) Z W among has)

  through : (ts : Trees L) (d e : Triple) (j : ℕ) (w : Tree L) → IsFreer d e → ThroughAt f g ts e j w → ThroughAt f g ts d j w
  through ts d e j w (first, among, second) (u, gives, has, end) = (u, subst (λ h. GivesAt f h j ts u) (sym first) gives, fewer (λ s. Has g.looks s u) d.all e.all among has, subst (λ k. Ends f g k u w) (sym second) end)

  module _ (D : L → Type 0) where
    yields : (ts : Trees L) (l : L) → D l → (w : Tree L) (p q : Option (Term Triple (L → L))) → TermStands IsFreer D p q → Yields f g l ts q w → Yields f g l ts p w
    yields ts l d w None q s y = tt
    yields ts l d w (Some p) None s y = absurd s
    yields ts l d w (Some p) (Some q) s y = stands_in IsFreer D (λ x j v. ThroughAt f g ts x j v) (λ x j v. ThroughAt f g ts x j v) l d (λ x e j v r t. through ts x e j v r t) p q w s y

    works : (ts : Trees L) (l : L) → D l → (w : Tree L) (y z : Way L) → Follows D y z → Works f g l ts w z → Works f g l ts w y
    works ts l d w y z s (guard, met, out) = (
      s.guard l d guard,
      (λ j. each_all (λ n. At (Means f g n) j ts) (asked (get_or y.demands j [])) (λ n at.
          let (m, there, follows) = s.asks j n at in
          at_map (Means f g m) (Means f g n) (λ t x. means n m follows t x) j ts (each_at (λ n. At (Means f g n) j ts) (asked (get_or z.demands j [])) m (met j) there))),
      yields ts l d w y.term z.term s.freer_term out,
    )

    -- each of the ways says the same as one of the list's, and from each of the list's that can hold one of them follows
    pub covering_are_ways : (p : Term Head (L → L)) (x : Triple) (ys zs : List (Way L)) → AreWays f g D p x zs
        → ((y : Way L) → Contains ys y → (z : Way L) × Contains zs z × AlikeWay D y z)
        → ((z : Way L) → Contains zs z → ((l : L) → D l → z.guard l ≡ false) ⊎ ((y : Way L) × Contains ys y × Follows D y z))
        → AreWays f g D p x ys
    covering_are_ways p x ys zs ways each all =
        let both = covers_are_ways f g D p x (ys ++ zs) zs ways (covers_match (AlikeWay D) (λ z. Never D z.guard) (ys ++ zs) zs (
          (λ y at. elim (in_either ys zs y at) [ inl a ↦ each y a | inr b ↦ (y, b, way_self D y) ]),
          λ z at. (z, in_right ys zs z at, way_self D z),
        )) in
        record {
          all = λ l d ts w m. let (z, at, ok) = ways.all l d ts w m in elim (all z at) [
            | inl never ↦ absurd (let e : true ≡ false = sym ok.0 ∙ never l d in cc)
            | inr found ↦ (let (y, in_ys, follows) = found in (y, in_ys, works ts l d w y z follows ok))
          ];
          only = λ l d ts w there can y at ok. both.only l d ts w there can y (in_left ys zs y at) ok;
          fit = λ y at. both.fit y (in_left ys zs y at);
          guards = λ y at. both.guards y (in_left ys zs y at);
          maps = λ y at. both.maps y (in_left ys zs y at);
        }
