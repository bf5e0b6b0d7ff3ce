-- Labels of two parts.
use Rattle.std.specs.Prelude.{◌≡◌, ◌↔◌, Bool, true, false, IsTrue, List, [], ◌∷◌}
use Rattle.std.proofs.Common.{refl, sym, subst, ◌∙◌, ◌||◌, arith, suc}
use Rattle.std.proofs.lemmas.List.Elements.{All-nil, All-cons}
use Rattle.std.specs.declared.cmp.Ordering.{Ordering}
use Rattle.std.specs.declared.cmp.Ordering.TheVariants.{Less, Equal, Greater}
use Rattle.std.specs.Ordering.{ordering_then}
use Rattle.model_tree.specs.Label.{Label, row, pair}
use Rattle.label_core.specs.Atoms.{has_equal, EachHasEqual}
use Rattle.label_core.specs.Meaning.{Meaning}
use Rattle.label_core.specs.declared.theory.Lit.{Lit}
use Rattle.label_core.specs.declared.pair.PairAtom.{PairAtom}
use Rattle.label_core.specs.declared.pair.PairAtom.TheVariants.{Left, Right}
use Rattle.label_core.specs.declared.pair.PairChain.{PairChain}
use Rattle.label_core.specs.declared.pair.PairValue.{PairValue}
use Rattle.label_core.specs.declared.pair.PairChain.TheVariants as chain

-- what holds of the two parts of a label
abbrev pub HasParts : (Label → Type 0) → (Label → Type 0) → Label → Type 0
HasParts F G (row fields) = ⊥
HasParts F G (pair l m) = F l × G m

-- what holds of the part's chain
abbrev pub OfChain : {C D : Type 0} → (C → Type 0) → (D → Type 0) → PairChain C D → Type 0
OfChain F G (chain.Left c) = F c
OfChain F G (chain.Right d) = G d

module _ {P Q : Type 0} where
  -- an atom holds where it holds of its part
  abbrev pub pair_holds : (P → Label → Bool) → (Q → Label → Bool) → PairAtom P Q → Label → Bool
  pair_holds h k a (row fields) = false
  pair_holds h k (Left p) (pair l m) = h p l
  pair_holds h k (Right q) (pair l m) = k q m

  -- what holds of the part's atom
  abbrev pub OfAtom : (P → Type 0) → (Q → Type 0) → PairAtom P Q → Type 0
  OfAtom F G (Left p) = F p
  OfAtom F G (Right q) = G q

  -- the atoms of the left part, and of the right one
  abbrev pub lefts : List (PairAtom P Q) → List P
  lefts [] = []
  lefts (Left p ∷ atoms) = p ∷ lefts atoms
  lefts (Right q ∷ atoms) = lefts atoms

  abbrev pub rights : List (PairAtom P Q) → List Q
  rights [] = []
  rights (Left p ∷ atoms) = rights atoms
  rights (Right q ∷ atoms) = q ∷ rights atoms

  -- what a literal says of the left part, and of the right one, if anything
  abbrev pub left_lit : PairAtom P Q → Bool → List (Lit P) → List (Lit P)
  left_lit (Left p) sign rest = record { atom = p; sign = sign } ∷ rest
  left_lit (Right q) sign rest = rest

  abbrev pub right_lit : PairAtom P Q → Bool → List (Lit Q) → List (Lit Q)
  right_lit (Left p) sign rest = rest
  right_lit (Right q) sign rest = record { atom = q; sign = sign } ∷ rest

  -- the literals of the left part, and of the right one
  abbrev pub left_lits : List (Lit (PairAtom P Q)) → List (Lit P)
  left_lits [] = []
  left_lits (x ∷ xs) = left_lit x.atom x.sign (left_lits xs)

  abbrev pub right_lits : List (Lit (PairAtom P Q)) → List (Lit Q)
  right_lits [] = []
  right_lits (x ∷ xs) = right_lit x.atom x.sign (right_lits xs)

-- the labels of two parts, and the chains of one of them, where atoms of two parts are equal by this test
abbrev pub pair_meaning : {P Q V W C D : Type 0} {u : V → Label} {v : W → Label} {h : P → Label → Bool} {k : Q → Label → Bool}
    → Meaning u h C → Meaning v k D → (PairAtom P Q → PairAtom P Q → Bool) → Meaning (λ (x : PairValue V W). pair (u x.left) (v x.right)) (pair_holds h k) (PairChain C D)
pair_meaning M N equal = record {
  has = HasParts M.has N.has;
  keeps = HasParts M.keeps N.keeps;
  equal = equal;
  chain_of = λ literals. OfChain (M.chain_of (left_lits literals)) (N.chain_of (right_lits literals));
  passes = OfChain M.passes N.passes;
  is_far = OfChain M.is_far N.is_far;
}

module _ {P Q : Type 0} (e : P → P → Bool) (f : Q → Q → Bool) where
  -- the equality that is derived
  pub record IsPairEq (E : PairAtom P Q → PairAtom P Q → Bool) : Type 0 where
    pub left_left : (p p' : P) → E (Left p) (Left p') ≡ e p p'
    pub left_right : (p : P) (q : Q) → E (Left p) (Right q) ≡ false
    pub right_left : (q : Q) (p : P) → E (Right q) (Left p) ≡ false
    pub right_right : (q q' : Q) → E (Right q) (Right q') ≡ f q q'

module _ {P Q : Type 0} (e : P → P → Bool) (f : Q → Q → Bool) (E : PairAtom P Q → PairAtom P Q → Bool) (is : IsPairEq e f E) where
  pub equal_pair_atoms : (h : P → Label → Bool) (k : Q → Label → Bool) → ((a b : P) (l : Label) → e a b ≡ true → h a l ≡ h b l) → ((a b : Q) (l : Label) → f a b ≡ true → k a l ≡ k b l) → (a b : PairAtom P Q) (l : Label) → E a b ≡ true → pair_holds h k a l ≡ pair_holds h k b l
  equal_pair_atoms h k eh ek a b (row fields) s = refl
  equal_pair_atoms h k eh ek (Left p) (Left p') (pair l m) s = eh p p' l (sym (is.left_left p p') ∙ s)
  equal_pair_atoms h k eh ek (Left p) (Right q) (pair l m) s = let no : false ≡ true = sym (is.left_right p q) ∙ s in cc
  equal_pair_atoms h k eh ek (Right q) (Left p) (pair l m) s = let no : false ≡ true = sym (is.right_left q p) ∙ s in cc
  equal_pair_atoms h k eh ek (Right q) (Right q') (pair l m) s = ek q q' m (sym (is.right_right q q') ∙ s)

  pub equal_pair_atoms_fit : (F : P → Type 0) (G : Q → Type 0) → ((a b : P) → e a b ≡ true → F a → F b) → ((a b : Q) → f a b ≡ true → G a → G b) → (a b : PairAtom P Q) → E a b ≡ true → OfAtom F G a → OfAtom F G b
  equal_pair_atoms_fit F G ef eg (Left p) (Left p') s = ef p p' (sym (is.left_left p p') ∙ s)
  equal_pair_atoms_fit F G ef eg (Left p) (Right q) s = λ _. let no : false ≡ true = sym (is.left_right p q) ∙ s in absurd cc
  equal_pair_atoms_fit F G ef eg (Right q) (Left p) s = λ _. let no : false ≡ true = sym (is.right_left q p) ∙ s in absurd cc
  equal_pair_atoms_fit F G ef eg (Right q) (Right q') s = eg q q' (sym (is.right_right q q') ∙ s)

  equal_left : (more : List (PairAtom P Q)) (p : P) → has_equal E more (Left p) ≡ has_equal e (lefts more) p
  equal_left [] p = refl
  equal_left (Left p' ∷ more) p = λ i. is.left_left p p' i || equal_left more p i
  equal_left (Right q ∷ more) p = (λ i. is.left_right p q i || equal_left more p i)

  equal_right : (more : List (PairAtom P Q)) (q : Q) → has_equal E more (Right q) ≡ has_equal f (rights more) q
  equal_right [] q = refl
  equal_right (Left p ∷ more) q = (λ i. is.right_left q p i || equal_right more q i)
  equal_right (Right q' ∷ more) q = λ i. is.right_right q q' i || equal_right more q i

  pub lefts_have_equal : (atoms more : List (PairAtom P Q)) → EachHasEqual E atoms more → EachHasEqual e (lefts atoms) (lefts more)
  lefts_have_equal [] more h = All-nil (λ p. IsTrue (has_equal e (lefts more) p))
  lefts_have_equal (Left p ∷ atoms) more h = All-cons (λ p. IsTrue (has_equal e (lefts more) p)) p (lefts atoms) (subst IsTrue (equal_left more p) (h 0 (Left p) (omega arith))) (lefts_have_equal atoms more (λ k d l. h (suc k) d (omega (arith, l))))
  lefts_have_equal (Right q ∷ atoms) more h = lefts_have_equal atoms more (λ k d l. h (suc k) d (omega (arith, l)))

  pub rights_have_equal : (atoms more : List (PairAtom P Q)) → EachHasEqual E atoms more → EachHasEqual f (rights atoms) (rights more)
  rights_have_equal [] more h = All-nil (λ q. IsTrue (has_equal f (rights more) q))
  rights_have_equal (Left p ∷ atoms) more h = rights_have_equal atoms more (λ k d l. h (suc k) d (omega (arith, l)))
  rights_have_equal (Right q ∷ atoms) more h = All-cons (λ q. IsTrue (has_equal f (rights more) q)) q (rights atoms) (subst IsTrue (equal_right more q) (h 0 (Right q) (omega arith))) (rights_have_equal atoms more (λ k d l. h (suc k) d (omega (arith, l))))

pub parts_kept : {F G F' G' : Label → Type 0} → ((l : Label) → F l → F' l) → ((m : Label) → G m → G' m) → (l : Label) → HasParts F G l → HasParts F' G' l
parts_kept f g (row fields) h = h
parts_kept f g (pair l m) h = (f l h.0, g m h.1)

pub equal_parts : (r s : Ordering) (l l' m m' : Label) → ((r ≡ Equal) ↔ (l ≡ l')) → ((s ≡ Equal) ↔ (m ≡ m')) → (ordering_then r s ≡ Equal) ↔ (pair l m ≡ pair l' m')
equal_parts Less s l l' m m' x y = (λ e. cc, λ e. let first : l ≡ l' = cc in x.1 first)
equal_parts Equal s l l' m m' x y = (λ e. λ i. pair (x.0 refl i) (y.0 e i), λ e. let second : m ≡ m' = cc in y.1 second)
equal_parts Greater s l l' m m' x y = (λ e. cc, λ e. let first : l ≡ l' = cc in x.1 first)
