-- Facts on literals of two parts.
use Rattle.std.proofs.Common.{◌≡◌, ℕ, ◌+◌, ◌<◌, get_or, Bool, List, [], ◌∷◌, ◌++◌, take, length, refl, sym, ap, ◌∙◌, suc, arith, append-nil}
use Rattle.std.proofs.lemmas.List.Elements.{All-nil, All-cons}
use Rattle.model_tree.specs.Label.{Label, pair}
use Rattle.std.proofs.lemmas.List.{take_more}
use Rattle.label_core.specs.Lit.{SatisfiesAll, LitsFit, atoms_of}
use Rattle.label_core.specs.declared.theory.Lit.{Lit}
use Rattle.label_core.specs.declared.pair.PairAtom.{PairAtom}
use Rattle.label_core.specs.declared.pair.PairAtom.TheVariants.{Left, Right}
use Rattle.label_core.specs.Pair.{pair_holds, OfAtom, lefts, rights, left_lit, right_lit, left_lits, right_lits}

module _ {P Q : Type 0} where
  -- the literals of a part, one by one
  left_one : (a : PairAtom P Q) (s : Bool) (vs ws us : List (Lit P)) → us ≡ vs ++ ws → left_lit a s us ≡ left_lit a s vs ++ ws
  left_one (Left p) s vs ws us e = ap (λ zs. record { atom = p; sign = s } ∷ zs) e
  left_one (Right q) s vs ws us e = e

  right_one : (a : PairAtom P Q) (s : Bool) (vs ws us : List (Lit Q)) → us ≡ vs ++ ws → right_lit a s us ≡ right_lit a s vs ++ ws
  right_one (Left p) s vs ws us e = e
  right_one (Right q) s vs ws us e = ap (λ zs. record { atom = q; sign = s } ∷ zs) e

  left_append : (xs ys : List (Lit (PairAtom P Q))) → left_lits (xs ++ ys) ≡ left_lits xs ++ left_lits ys
  left_append [] ys = refl
  left_append (x ∷ xs) ys = left_one x.atom x.sign (left_lits xs) (left_lits ys) (left_lits (xs ++ ys)) (left_append xs ys)

  right_append : (xs ys : List (Lit (PairAtom P Q))) → right_lits (xs ++ ys) ≡ right_lits xs ++ right_lits ys
  right_append [] ys = refl
  right_append (x ∷ xs) ys = right_one x.atom x.sign (right_lits xs) (right_lits ys) (right_lits (xs ++ ys)) (right_append xs ys)

  taken : (xs : List (Lit (PairAtom P Q))) (i : ℕ) (x : Lit (PairAtom P Q)) → i < length xs → x ≡ get_or xs i x → take (i + 1) xs ≡ take i xs ++ x ∷ []
  taken xs i x l e = take_more xs i x l ∙ ap (λ y. take i xs ++ y ∷ []) (sym e)

  left_more : (xs : List (Lit (PairAtom P Q))) (i : ℕ) (x : Lit (PairAtom P Q)) → i < length xs → x ≡ get_or xs i x → left_lits (take (i + 1) xs) ≡ left_lits (take i xs) ++ left_lit x.atom x.sign []
  left_more xs i x l e = ap left_lits (taken xs i x l e) ∙ left_append (take i xs) (x ∷ [])

  right_more : (xs : List (Lit (PairAtom P Q))) (i : ℕ) (x : Lit (PairAtom P Q)) → i < length xs → x ≡ get_or xs i x → right_lits (take (i + 1) xs) ≡ right_lits (take i xs) ++ right_lit x.atom x.sign []
  right_more xs i x l e = ap right_lits (taken xs i x l e) ∙ right_append (take i xs) (x ∷ [])

  pub left_none : (xs : List (Lit (PairAtom P Q))) (i : ℕ) (x : Lit (PairAtom P Q)) (q : Q) → i < length xs → x ≡ get_or xs i x → x.atom ≡ Right q → left_lits (take (i + 1) xs) ≡ left_lits (take i xs)
  left_none xs i x q l e is = left_more xs i x l e ∙ ap (λ a. left_lits (take i xs) ++ left_lit a x.sign []) is ∙ append-nil (left_lits (take i xs))

  pub right_none : (xs : List (Lit (PairAtom P Q))) (i : ℕ) (x : Lit (PairAtom P Q)) (p : P) → i < length xs → x ≡ get_or xs i x → x.atom ≡ Left p → right_lits (take (i + 1) xs) ≡ right_lits (take i xs)
  right_none xs i x p l e is = right_more xs i x l e ∙ ap (λ a. right_lits (take i xs) ++ right_lit a x.sign []) is ∙ append-nil (right_lits (take i xs))

  -- one more literal of the left part, and one more of the right part
  pub left_taken : (xs : List (Lit (PairAtom P Q))) (i : ℕ) (x : Lit (PairAtom P Q)) (p : P) → i < length xs → x ≡ get_or xs i x → x.atom ≡ Left p → left_lits (take (i + 1) xs) ≡ left_lits (take i xs) ++ record { atom = p; sign = x.sign } ∷ []
  left_taken xs i x p l e is = left_more xs i x l e ∙ ap (λ a. left_lits (take i xs) ++ left_lit a x.sign []) is

  pub right_taken : (xs : List (Lit (PairAtom P Q))) (i : ℕ) (x : Lit (PairAtom P Q)) (q : Q) → i < length xs → x ≡ get_or xs i x → x.atom ≡ Right q → right_lits (take (i + 1) xs) ≡ right_lits (take i xs) ++ record { atom = q; sign = x.sign } ∷ []
  right_taken xs i x q l e is = right_more xs i x l e ∙ ap (λ a. right_lits (take i xs) ++ right_lit a x.sign []) is

module _ {P Q : Type 0} (h : P → Label → Bool) (k : Q → Label → Bool) (l m : Label) where
  split_one : (a : PairAtom P Q) (s : Bool) (vs : List (Lit P)) (ws : List (Lit Q)) → SatisfiesAll h (left_lit a s vs) l → SatisfiesAll k (right_lit a s ws) m → (pair_holds h k a (pair l m) ≡ s) × SatisfiesAll h vs l × SatisfiesAll k ws m
  split_one (Left p) s vs ws x y = (x 0 (record { atom = p; sign = s }) (omega arith), λ i d b. x (suc i) d (omega (arith, b)), y)
  split_one (Right q) s vs ws x y = (y 0 (record { atom = q; sign = s }) (omega arith), x, λ i d b. y (suc i) d (omega (arith, b)))

  pub whole : (lits : List (Lit (PairAtom P Q))) → SatisfiesAll h (left_lits lits) l → SatisfiesAll k (right_lits lits) m → SatisfiesAll (pair_holds h k) lits (pair l m)
  whole [] x y = All-nil (λ z. pair_holds h k z.atom (pair l m) ≡ z.sign)
  whole (z ∷ lits) x y =
      let s = split_one z.atom z.sign (left_lits lits) (right_lits lits) x y in
      All-cons (λ z. pair_holds h k z.atom (pair l m) ≡ z.sign) z lits s.0 (whole lits s.1 s.2)

  left_held : (a : PairAtom P Q) (s : Bool) (vs : List (Lit P)) → pair_holds h k a (pair l m) ≡ s → SatisfiesAll h vs l → SatisfiesAll h (left_lit a s vs) l
  left_held (Left p) s vs e x = All-cons (λ z. h z.atom l ≡ z.sign) (record { atom = p; sign = s }) vs e x
  left_held (Right q) s vs e x = x

  right_held : (a : PairAtom P Q) (s : Bool) (ws : List (Lit Q)) → pair_holds h k a (pair l m) ≡ s → SatisfiesAll k ws m → SatisfiesAll k (right_lit a s ws) m
  right_held (Left p) s ws e x = x
  right_held (Right q) s ws e x = All-cons (λ z. k z.atom m ≡ z.sign) (record { atom = q; sign = s }) ws e x

  pub left_part : (lits : List (Lit (PairAtom P Q))) → SatisfiesAll (pair_holds h k) lits (pair l m) → SatisfiesAll h (left_lits lits) l
  left_part [] x = All-nil (λ z. h z.atom l ≡ z.sign)
  left_part (z ∷ lits) x = left_held z.atom z.sign (left_lits lits) (x 0 z (omega arith)) (left_part lits (λ i d b. x (suc i) d (omega (arith, b))))

  pub right_part : (lits : List (Lit (PairAtom P Q))) → SatisfiesAll (pair_holds h k) lits (pair l m) → SatisfiesAll k (right_lits lits) m
  right_part [] x = All-nil (λ z. k z.atom m ≡ z.sign)
  right_part (z ∷ lits) x = right_held z.atom z.sign (right_lits lits) (x 0 z (omega arith)) (right_part lits (λ i d b. x (suc i) d (omega (arith, b))))

module _ {P Q : Type 0} (F : P → Type 0) (G : Q → Type 0) where
  left_fit_one : (a : PairAtom P Q) (s : Bool) (vs : List (Lit P)) → OfAtom F G a → LitsFit F vs → LitsFit F (left_lit a s vs)
  left_fit_one (Left p) s vs e x = All-cons (λ z. F z.atom) (record { atom = p; sign = s }) vs e x
  left_fit_one (Right q) s vs e x = x

  right_fit_one : (a : PairAtom P Q) (s : Bool) (ws : List (Lit Q)) → OfAtom F G a → LitsFit G ws → LitsFit G (right_lit a s ws)
  right_fit_one (Left p) s ws e x = x
  right_fit_one (Right q) s ws e x = All-cons (λ z. G z.atom) (record { atom = q; sign = s }) ws e x

  pub left_fit : (lits : List (Lit (PairAtom P Q))) → LitsFit (OfAtom F G) lits → LitsFit F (left_lits lits)
  left_fit [] x = All-nil (λ z. F z.atom)
  left_fit (z ∷ lits) x = left_fit_one z.atom z.sign (left_lits lits) (x 0 z (omega arith)) (left_fit lits (λ i d b. x (suc i) d (omega (arith, b))))

  pub right_fit : (lits : List (Lit (PairAtom P Q))) → LitsFit (OfAtom F G) lits → LitsFit G (right_lits lits)
  right_fit [] x = All-nil (λ z. G z.atom)
  right_fit (z ∷ lits) x = right_fit_one z.atom z.sign (right_lits lits) (x 0 z (omega arith)) (right_fit lits (λ i d b. x (suc i) d (omega (arith, b))))

module _ {P Q : Type 0} where
  left_atom : (a : PairAtom P Q) (s : Bool) (vs : List (Lit P)) (atoms : List (PairAtom P Q)) → atoms_of vs ≡ lefts atoms → atoms_of (left_lit a s vs) ≡ lefts (a ∷ atoms)
  left_atom (Left p) s vs atoms e = ap (λ ps. p ∷ ps) e
  left_atom (Right q) s vs atoms e = e

  right_atom : (a : PairAtom P Q) (s : Bool) (ws : List (Lit Q)) (atoms : List (PairAtom P Q)) → atoms_of ws ≡ rights atoms → atoms_of (right_lit a s ws) ≡ rights (a ∷ atoms)
  right_atom (Left p) s ws atoms e = e
  right_atom (Right q) s ws atoms e = ap (λ qs. q ∷ qs) e

  pub left_atoms : (lits : List (Lit (PairAtom P Q))) → atoms_of (left_lits lits) ≡ lefts (atoms_of lits)
  left_atoms [] = refl
  left_atoms (z ∷ lits) = left_atom z.atom z.sign (left_lits lits) (atoms_of lits) (left_atoms lits)

  pub right_atoms : (lits : List (Lit (PairAtom P Q))) → atoms_of (right_lits lits) ≡ rights (atoms_of lits)
  right_atoms [] = refl
  right_atoms (z ∷ lits) = right_atom z.atom z.sign (right_lits lits) (atoms_of lits) (right_atoms lits)
