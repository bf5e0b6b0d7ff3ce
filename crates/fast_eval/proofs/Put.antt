-- The comparisons and the maps of what is made of a transformation and a language are those of the expression.
use Rattle.std.proofs.Common.{◌≡◌, ◌⊎◌, inl, inr, ℕ, zero, suc, Bool, true, false, cond, List, [], ◌∷◌, map, slice_index_or, get_or, Some, All, Contains, refl, sym, ap, subst, ◌∙◌, arith}
use Rattle.std.proofs.lemmas.Bool.{and_parts}
use Rattle.std.specs.Prelude.{ℤ}
use Rattle.std.specs.Str.{bytes_eq}
use Rattle.std.specs.Cmp.Lexicographic.{pointwise}
use Rattle.std.proofs.lemmas.List.Elements.{All-nil, All-cons, All-head, All-map, All-weaker, All-contains}
use Rattle.model_tree.specs.Formula.{Formula, yes, no, EveryAtom}
use Rattle.model_program.specs.Syntax.{Name}
use Rattle.model_grammar.specs.Syntax.{X, named, Item}
use Rattle.model_names.specs.Kinds.{output_of}
use Rattle.model_meaning.specs.Reached.{Opens}
use Rattle.model_form.specs.Form.{Form}
use Rattle.model_chain.specs.Literals as plain
use Rattle.model_run.specs.Parts.{operands, LooksBack}
use Rattle.model_run.specs.Seen.{LabelList, list_forms, IsLabelList, IsSameCompare, compare_opened, list_opened}
use Rattle.model_layers.specs.Compared.{put_forms, TransducerForms, IsPutOf, AreSameForms, AreComparedTrans, AreCompared, IsOneOf, HasOutside}
use Rattle.model_layers.proofs.Compared.{compares_go_up, numbers_go_up}
use Rattle.form_laws.proofs.Putting.{same_itself, same_further}
use Rattle.label_core.specs.Formula.{atoms_in, plain_formula}
use Rattle.label_core.specs.Pair.{lefts}
use Rattle.label_core.specs.SameFormula.{same_formula}
use Rattle.label_core.specs.SameLaws.{same_every}
use Rattle.label_core.specs.declared.pair.PairAtom.TheVariants.{Left, Right}
use Rattle.label_split.proofs.SameAtoms.{every_atom, all_atoms}
use Rattle.flat_label.specs.declared.texts.TextSide.{TextSide}
use Rattle.flat_label.specs.declared.texts.TextSide.TheVariants as side
use Rattle.lin_solve.specs.declared.compare.Compare.{Compare}
use Rattle.lin_solve.specs.Plain.{plain_compare, plain_relation}
use Rattle.lin_solve.proofs.Alike.{parts_of_equal}
use Rattle.sta_core.specs.Machine.{Machine, PlainRule}
use Rattle.sta_core.specs.Sta.{AtomsFit}
use Rattle.sta_classes.specs.Guards.{all_guards, atoms_of_all}
use Rattle.sta_theory.proofs.Lists.{first_in, later_in, in_left, in_right, in_map}
use Rattle.sttr_core.specs.Machine.{OutMachine}
use Rattle.sttr_core.specs.Fits.{EveryMap, MapsAre}
use Rattle.sttr_run.specs.Sources.{HasAtom, HasAtomIn, HasMap, GivesChild}
use Rattle.sttr_preimage.specs.Results.{IsOldAtom, IsAskedAtom, IsImageAtom, IsOldMap, AtomsAre, IsImageStop}
use Rattle.sttr_run.specs.declared.running.RunStop.TheVariants as run
use Rattle.record_label.specs.Derived.{same_atoms, same_compares}
use Rattle.record_label.specs.contracts.maps.RowEntryPartialEq.TheImpl as entry
use Rattle.record_label.specs.declared.maps.RowEntry.{RowEntry}
use Rattle.record_label.specs.declared.maps.RowEntry.TheVariants.{Number, Truth, Text}
use Rattle.record_label.specs.declared.maps.RowMap.{RowMap}
use Rattle.record_label.specs.Maps.{forms_of, formulas_in, are_one, put_side, put_atom, put_compare, IsOutsidePut}
use Rattle.record_label.specs.PlainMaps.{plain_entry}
use Rattle.record_label.specs.Rows.{RowAtom}
use Rattle.model_layers.proofs.Sight.{the_only}
use Rattle.fast_eval.specs.Built.{compares_in, entries_of, HasTest, IsCompared, AreListed, AreTransCompared}
use Rattle.fast_build.proofs.Paired.{each_all}
use Rattle.fast_eval.proofs.NamesBuilt.{guards_listed, atoms_listed, lefts_listed}

-- ---- comparisons that are the same

same_parts : (a b : Compare) → same_compares a b ≡ true → IsSameCompare (plain_compare a) (plain_compare b)
same_parts a b e = let parts = parts_of_equal a b e in (ap (λ r. plain_relation r) parts.1, parts.0, parts.2)

further : (c d e : plain.Compare) → IsSameCompare c d → IsSameCompare d e → IsSameCompare c e
further c d e first second = (first.0 ∙ second.0, same_further c.left d.left e.left first.1 second.1, same_further c.right d.right e.right first.2 second.2)

pub itself : (c : plain.Compare) → IsSameCompare c c
itself c = (refl, same_itself c.left, same_itself c.right)

-- ---- atoms in guards

pub none : {X : Type 0} (x : X) → Contains [] x → ⊥
none x (k, low, is) = omega (arith, low)

pub place_of : {X : Type 0} (x : X) (xs : List X) (y : X) → Contains (x ∷ xs) y → (x ≡ y) ⊎ Contains xs y
place_of x xs y (zero, low, is) = inl is
place_of x xs y (suc k, low, is) = inr (k, omega (arith, low), is)

in_guards : (rules : List (List (PlainRule RowAtom))) (those : List (PlainRule RowAtom)) → Contains rules those → (r : PlainRule RowAtom) → Contains those r → Contains (all_guards rules) r.guard
in_guards [] those at r there = absurd (none those at)
in_guards (rs ∷ rules) those at r there = elim (place_of rs rules those at) [
  | inl same ↦ in_left (map (λ p. p.guard) rs) (all_guards rules) r.guard (in_map (λ p. p.guard) rs r (subst (λ l. Contains l r) (sym same) there))
  | inr later ↦ in_right (map (λ p. p.guard) rs) (all_guards rules) r.guard (in_guards rules those later r there)
]

in_atoms : (gs : List (Formula RowAtom)) (g : Formula RowAtom) → Contains gs g → (a : RowAtom) → Contains (atoms_in g) a → Contains (atoms_of_all gs) a
in_atoms [] g at a there = absurd (none g at)
in_atoms (f ∷ gs) g at a there = elim (place_of f gs g at) [
  | inl same ↦ in_left (atoms_in f) (atoms_of_all gs) a (subst (λ h. Contains (atoms_in h) a) (sym same) there)
  | inr later ↦ in_right (atoms_in f) (atoms_of_all gs) a (in_atoms gs g later a there)
]

abbrev of_numbers : Compare → RowAtom
of_numbers k = Left k

same_numbers : (p k : Compare) → of_numbers p ≡ of_numbers k → p ≡ k
same_numbers p k e = cc

in_lefts : (atoms : List RowAtom) (k : Compare) → Contains atoms (Left k) → Contains (lefts atoms) k
in_lefts [] k at = absurd (none (Left k) at)
in_lefts (Left p ∷ atoms) k at = elim (place_of (Left p) atoms (Left k) at) [
  | inl same ↦ subst (λ q. Contains (p ∷ lefts atoms) q) (same_numbers p k same) (first_in p (lefts atoms))
  | inr later ↦ later_in p k (lefts atoms) (in_lefts atoms k later)
]
in_lefts (Right q ∷ atoms) k at = elim (place_of (Right q) atoms (Left k) at) [
  | inl same ↦ absurd (let no : Right q ≡ Left k = same in cc)
  | inr later ↦ in_lefts atoms k later
]

-- the comparison of an atom in a guard is among those of the automaton
compare_in : (m : Machine RowAtom) (k : Compare) → HasAtom m.rules (Left k) → Contains (compares_in m) (plain_compare k)
compare_in m k (those, at, r, there, own) =
    in_map plain_compare (lefts (atoms_of_all (all_guards m.rules))) k (in_lefts (atoms_of_all (all_guards m.rules)) k (in_atoms (all_guards m.rules) r.guard (in_guards m.rules those at r there) (Left k) own))

-- ---- from operands to the whole expression

module _ (items : List Item) where
  -- of an operand
  pub one_compared : (e x : X) (type : List ℕ) → Contains (operands e) x → (k c : plain.Compare) → IsCompared items x type k → IsSameCompare k c → IsCompared items e type c
  one_compared e x type at k c own same =
      All-head (IsCompared items e type) c []
      ((compares_go_up items).of_operands e x x type (k ∷ []) [] (c ∷ []) at at (All-cons (IsCompared items x type) k [] own (All-nil (IsCompared items x type))) (All-nil (IsCompared items x type))
      (All-cons (λ d. IsOneOf (k ∷ []) d ⊎ IsOneOf [] d) c [] (inl (k, first_in k [], same)) (All-nil (λ d. IsOneOf (k ∷ []) d ⊎ IsOneOf [] d))))

  -- the forms of a label list of an expression
  abbrev pub AreFormsOf : X → List ℕ → List ℕ → List Form → Type 0
  AreFormsOf e from into ms = (l : LabelList) × IsLabelList items e from into l × AreSameForms (list_forms l) ms

  -- one map alone
  abbrev pub one_map : List Form → TransducerForms
  one_map ms = record { compares = []; maps = ms ∷ [] }

  -- an atom of a comparison of the expression
  module _ (e : X) (from : List ℕ) where
    abbrev pub IsFine : RowAtom → Type 0
    IsFine (Left k) = IsCompared items e from (plain_compare k)
    IsFine (Right q) = Unit {0}

    pub fine_equal : (a b : RowAtom) → same_atoms a b ≡ true → IsFine a → IsFine b
    fine_equal (Left k) (Left j) same (g, is, alike) = (g, is, further g (plain_compare k) (plain_compare j) alike (same_parts k j same))
    fine_equal (Left k) (Right q) same fine = tt
    fine_equal (Right p) (Left j) same fine = absurd (let no : false ≡ true = same in cc)
    fine_equal (Right p) (Right q) same fine = tt

    -- of an operand
    pub operand_fine : (f : X) → Contains (operands e) f → (a : RowAtom) → ((k : Compare) → a ≡ Left k → IsCompared items f from (plain_compare k)) → IsFine a
    operand_fine f at (Left k) own = one_compared e f from at (plain_compare k) (plain_compare k) (own k refl) (itself (plain_compare k))
    operand_fine f at (Right q) own = tt

  -- the comparisons that are asked of a language
  asked_one : (y : X) (type : List ℕ) (b : Machine RowAtom) → AreCompared items y type (compares_in b) → (k : Compare) → HasAtom b.rules (Left k) → IsCompared items y type (plain_compare k)
  asked_one y type b other k has = All-contains (IsCompared items y type) (compares_in b) (plain_compare k) other (compare_in b k has)

  module _ (e f : X) (from into : List ℕ) (d : OutMachine RowAtom RowMap) (own : AreTransCompared items f from into d) where
    pub one_listed : (m : RowMap) → HasMap d m → AreComparedTrans items f from into (one_map (forms_of (entries_of m)))
    one_listed m has = record {
      compares = All-nil (IsCompared items f from);
      maps = All-cons (AreFormsOf f from into) (forms_of (entries_of m)) [] (own.maps m has) (All-nil (AreFormsOf f from into));
    }

    -- ---- atoms that are as before

    module _ (at : Contains (operands e) f) where
      pub test_fine : (a : RowAtom) → HasTest d a → IsFine e from a
      test_fine a has = operand_fine e from f at a (λ k is. own.compares k (subst (HasTest d) is has))

      pub test_compared : (a : RowAtom) → HasTest d a → (c : Compare) → same_atoms a (Left c) ≡ true → IsCompared items e from (plain_compare c)
      test_compared a has c same = fine_equal e from a (Left c) same (test_fine a has)

      pub old_compared : (asked : List (List (PlainRule RowAtom))) (c : Compare) → IsOldAtom same_atoms d asked (Left c) → IsCompared items e from (plain_compare c)
      old_compared asked c (a, has, same) = test_compared a (inl has) c same

    -- ---- atoms that are asked of a language, as they are

    module _ (y : X) (type : List ℕ) (b : Machine RowAtom) (other : AreCompared items y type (compares_in b)) where
      pub asked_compared : Contains (operands e) y → (c : Compare) → IsAskedAtom same_atoms d b.rules (Left c) → IsCompared items e type (plain_compare c)
      asked_compared at c (a, has, same) = fine_equal e type a (Left c) same (operand_fine e type y at a (λ k is. asked_one y type b other k (subst (HasAtom b.rules) is has)))

-- ---- what is put

-- an atom of a formula at a place is one of these formulas
formula_at : (fs : List (Formula RowAtom)) (k : ℕ) (d : RowAtom) → Contains (atoms_in (slice_index_or fs k no)) d → (f : Formula RowAtom) × Contains fs f × Contains (atoms_in f) d
formula_at [] k d at = absurd (none d at)
formula_at (f ∷ fs) zero d at = (f, first_in f fs, at)
formula_at (f ∷ fs) (suc k) d at = let (g, there, own) = formula_at fs k d at in (g, later_in f g fs there, own)

-- no atom of an equality of texts is a comparison
abbrev decided : Bool → Formula RowAtom
decided b = cond b yes no

decided_none : (b : Bool) (d : RowAtom) → Contains (atoms_in (decided b)) d → ⊥
decided_none true d at = none d at
decided_none false d at = none d at

abbrev pub row_is_put : RowMap → RowAtom → RowAtom → Type 0
row_is_put m a = Contains (atoms_in (put_atom (entries_of m) a))

abbrev pub row_outside : RowMap → RowAtom → ℤ → Type 0
row_outside m = IsOutsidePut (entries_of m)

one_text : (items : List Item) (e : X) (from : List ℕ) (s t : TextSide) (p : RowAtom) → Contains (atoms_in (are_one s t)) p → IsFine items e from p
one_text items e from (side.Constant s) (side.Constant t) p at = absurd (decided_none (bytes_eq s t) p at)
one_text items e from (side.Constant s) (side.Field k) p at = subst (IsFine items e from) (the_only _ p at) tt
one_text items e from (side.Field k) t p at = subst (IsFine items e from) (the_only _ p at) tt

module _ (items : List Item) (e f y : X) (from into : List ℕ) (back : LooksBack e f y) (at_f : Contains (operands e) f) (at_y : Contains (operands e) y) (out : output_of items f ≡ Some into)
    (d : OutMachine RowAtom RowMap) (own : AreTransCompared items f from into d) where
  -- comparisons that are asked of labels that a map makes
  module _ (Asked : RowAtom → Type 0) (asked : (k : Compare) → Asked (Left k) → IsCompared items y into (plain_compare k)) where
    put_one : (m : RowMap) → HasMap d m → (k : plain.Compare) → IsCompared items y into k → IsCompared items e from (put_forms (forms_of (entries_of m)) k)
    put_one m has k is =
        let ms = forms_of (entries_of m) in
        let c = put_forms ms k in
        All-head (IsCompared items e from) c []
        ((compares_go_up items).put e f y from into (one_map items ms) (k ∷ []) (c ∷ []) back at_f at_y out (one_listed items e f from into d own m has) (All-cons (IsCompared items y into) k [] is (All-nil (IsCompared items y into)))
        (All-cons (IsPutOf (from ≡ into) (one_map items ms) (k ∷ [])) c [] (inr (inl (ms, first_in ms [], k, first_in k [], itself c))) (All-nil (IsPutOf (from ≡ into) (one_map items ms) (k ∷ [])))))

    pub put_fine : (m : RowMap) → HasMap d m → (a : RowAtom) → Asked a → (p : RowAtom) → row_is_put m a p → IsFine items e from p
    put_fine m has (Left k) is p at = subst (IsFine items e from) (the_only (Left (put_compare (forms_of (entries_of m)) k)) p at) (put_one m has (plain_compare k) (asked k is))
    put_fine m has (Right (Left t)) is p at =
        let (g, there, in_g) = formula_at (formulas_in (entries_of m)) t.field p at in
        test_fine items e f from into d own at_f p (inr (m, has, g, there, in_g))
    put_fine m has (Right (Right t)) is p at = one_text items e from (put_side (entries_of m) t.left) (put_side (entries_of m) t.right) p at

    -- a number that stops a put
    pub put_outside : (m : RowMap) → HasMap d m → (a : RowAtom) → Asked a → (n : ℤ) → row_outside m a n → HasOutside items e n
    put_outside m has (Left k) is n outside =
        let ms = forms_of (entries_of m) in
        (numbers_go_up items).put e f y from into (one_map items ms) (plain_compare k ∷ []) back out (one_listed items e f from into d own m has)
        (All-cons (IsCompared items y into) (plain_compare k) [] (asked k is) (All-nil (IsCompared items y into))) ms (first_in ms []) (plain_compare k) (first_in (plain_compare k) []) n outside
    put_outside m has (Right q) is n outside = absurd outside

  -- of a language
  module _ (b : Machine RowAtom) (other : AreCompared items y into (compares_in b)) where
    pub image_compared : (GivesChild d → from ≡ into) → (c : Compare) → IsImageAtom same_atoms d b.rules row_is_put (Left c) → IsCompared items e from (plain_compare c)
    image_compared one c (inl old) = old_compared items e f from into d own at_f b.rules c old
    image_compared one c (inr (inl (m, has, a, is, p, put, same))) = fine_equal items e from p (Left c) same (put_fine (HasAtom b.rules) (asked_one items y into b other) m has a is p put)
    image_compared one c (inr (inr (gives, is))) = subst (λ t. IsCompared items e t (plain_compare c)) (sym (one gives)) (asked_compared items e f from into d own y into b other at_y c is)

    pub image_outside : (n : ℤ) → IsImageStop row_outside d b.rules (run.Range n) → HasOutside items e n
    image_outside n (m, has, a, is, outside) = put_outside (HasAtom b.rules) (asked_one items y into b other) m has a is n outside

-- ---- results

-- the comparisons of an automaton
pub machine_compared : (items : List Item) (e : X) (type : List ℕ) (m : Machine RowAtom) (P : RowAtom → Type 0) → ((c : Compare) → P (Left c) → IsCompared items e type (plain_compare c)) → AtomsFit P m → AreCompared items e type (compares_in m)
machine_compared items e type m P to fits =
    All-map (IsCompared items e type) plain_compare (lefts (atoms_of_all (all_guards m.rules)))
    (All-weaker (λ c. P (Left c)) (λ c. IsCompared items e type (plain_compare c)) to (lefts (atoms_of_all (all_guards m.rules)))
    (lefts_listed P (atoms_of_all (all_guards m.rules)) (atoms_listed P (all_guards m.rules) (guards_listed (λ g. All P (atoms_in g)) m.rules (λ k d low i x below. all_atoms P (get_or (get_or m.rules k d) i x).guard (fits k d low i x below))))))

abbrev same_entries : RowEntry → RowEntry → Bool
same_entries = entry.eq-value.it

-- equal maps have equal forms
pub equal_forms : (xs ys : List RowEntry) → pointwise same_entries xs ys ≡ true → AreSameForms (forms_of (map plain_entry xs)) (forms_of (map plain_entry ys))
equal_forms [] [] e = tt
equal_forms [] (y ∷ ys) e = absurd (cc)
equal_forms (x ∷ xs) [] e = absurd (cc)
equal_forms (x ∷ xs) (y ∷ ys) e = let both = and_parts (same_entries x y) (pointwise same_entries xs ys) e in by x y both.0 (equal_forms xs ys both.1)
  where
    by : (x y : RowEntry) → same_entries x y ≡ true → AreSameForms (forms_of (map plain_entry xs)) (forms_of (map plain_entry ys)) → AreSameForms (forms_of (map plain_entry (x ∷ xs))) (forms_of (map plain_entry (y ∷ ys)))
    by (Number f) (Number g) same rest = (same, rest)
    by (Number f) (Truth g) same rest = absurd (let no : false ≡ true = same in cc)
    by (Number f) (Text t) same rest = absurd (let no : false ≡ true = same in cc)
    by (Truth f) (Number g) same rest = absurd (let no : false ≡ true = same in cc)
    by (Truth f) (Truth g) same rest = rest
    by (Truth f) (Text t) same rest = absurd (let no : false ≡ true = same in cc)
    by (Text s) (Number g) same rest = absurd (let no : false ≡ true = same in cc)
    by (Text s) (Truth g) same rest = absurd (let no : false ≡ true = same in cc)
    by (Text s) (Text t) same rest = rest

-- and each formula of the second has an equal one in the first
abbrev HasEqual : List RowEntry → Formula RowAtom → Type 0
HasEqual xs f = (g : Formula RowAtom) × Contains (formulas_in (map plain_entry xs)) g × (same_formula same_atoms g f ≡ true)

equal_formulas : (xs ys : List RowEntry) → pointwise same_entries xs ys ≡ true → (f : Formula RowAtom) → Contains (formulas_in (map plain_entry ys)) f → HasEqual xs f
equal_formulas [] [] e f at = absurd (none f at)
equal_formulas [] (y ∷ ys) e f at = absurd (cc)
equal_formulas (x ∷ xs) [] e f at = absurd (none f at)
equal_formulas (x ∷ xs) (y ∷ ys) e f at = let both = and_parts (same_entries x y) (pointwise same_entries xs ys) e in by x y both.0 (equal_formulas xs ys both.1 f) at
  where
    by : (x y : RowEntry) → same_entries x y ≡ true → (Contains (formulas_in (map plain_entry ys)) f → HasEqual xs f) → Contains (formulas_in (map plain_entry (y ∷ ys))) f → HasEqual (x ∷ xs) f
    by (Number g) (Number h) same rest at = rest at
    by (Number g) (Truth h) same rest at = absurd (let no : false ≡ true = same in cc)
    by (Number g) (Text t) same rest at = absurd (let no : false ≡ true = same in cc)
    by (Truth g) (Number h) same rest at = absurd (let no : false ≡ true = same in cc)
    by (Truth g) (Truth h) same rest at = elim (place_of (plain_formula h) (formulas_in (map plain_entry ys)) f at) [
      | inl is ↦ (plain_formula g, first_in (plain_formula g) (formulas_in (map plain_entry xs)), subst (λ z. same_formula same_atoms (plain_formula g) z ≡ true) is same)
      | inr later ↦ (let (k, there, alike) = rest later in (k, later_in (plain_formula g) k (formulas_in (map plain_entry xs)) there, alike))
    ]
    by (Truth g) (Text t) same rest at = absurd (let no : false ≡ true = same in cc)
    by (Text s) (Number h) same rest at = absurd (let no : false ≡ true = same in cc)
    by (Text s) (Truth h) same rest at = absurd (let no : false ≡ true = same in cc)
    by (Text s) (Text t) same rest at = rest at

-- so their formulas have comparisons of one expression
pub equal_fine : (items : List Item) (e : X) (from : List ℕ) (m n : RowMap) → pointwise same_entries m.entries.items n.entries.items ≡ true
    → ((h : Formula RowAtom) → Contains (formulas_in (entries_of m)) h → (a : RowAtom) → Contains (atoms_in h) a → IsFine items e from a)
    → (g : Formula RowAtom) → Contains (formulas_in (entries_of n)) g → (a : RowAtom) → Contains (atoms_in g) a → IsFine items e from a
equal_fine items e from m n same own g there a in_g =
    let P = IsFine items e from in
    let (h, in_m, alike) = equal_formulas m.entries.items n.entries.items same g there in
    let fine_h : EveryAtom P h = every_atom P h (each_all P (atoms_in h) (own h in_m)) in
    All-contains P (atoms_in g) a (all_atoms P g (same_every same_atoms P (fine_equal items e from) h g alike fine_h)) in_g

-- equal maps are so entry by entry
abbrev pub IsByEntries : (RowMap → RowMap → Bool) → Type 0
IsByEntries map_eq = (m n : RowMap) → map_eq m n ≡ true → pointwise same_entries m.entries.items n.entries.items ≡ true

-- what holds of each atom in guards
pub atom_of : (P : RowAtom → Type 0) (c : OutMachine RowAtom RowMap) → AtomsAre P c → (a : RowAtom) → HasAtomIn c a → P a
atom_of P c atoms a (inl (those, there, r, among, own)) =
    let rules = All-contains (λ rs. All (λ p. EveryAtom P p.guard) rs) c.looks.rules those atoms.looks there in
    All-contains P (atoms_in r.guard) a (all_atoms P r.guard (All-contains (λ p. EveryAtom P p.guard) those r rules among)) own
atom_of P c atoms a (inr (those, there, r, among, own)) =
    let rules = All-contains (λ rs. All (λ p. EveryAtom P p.rule.guard) rs) c.rules those atoms.guards there in
    All-contains P (atoms_in r.rule.guard) a (all_atoms P r.rule.guard (All-contains (λ p. EveryAtom P p.rule.guard) those r rules among)) own

-- and of each map
pub map_of : (P : RowMap → Type 0) (c : OutMachine RowAtom RowMap) → MapsAre P c → (n : RowMap) → HasMap c n → P n
map_of P c maps n (those, there, r, among, makes) =
    let rules = All-contains (λ rs. All (λ p. EveryMap P p.term) rs) c.rules those maps there in
    All-contains (λ p. EveryMap P p.term) those r rules among n makes

module _ (items : List Item) (e f : X) (from into : List ℕ) (at : Contains (operands e) f) (d : OutMachine RowAtom RowMap) (own : AreTransCompared items f from into d) (map_eq : RowMap → RowMap → Bool) (by_entries : IsByEntries map_eq)
    (c : OutMachine RowAtom RowMap) (old : MapsAre (IsOldMap map_eq d) c) where
  old_map : (n : RowMap) → HasMap c n → IsOldMap map_eq d n
  old_map = map_of (IsOldMap map_eq d) c old

  -- a formula of a map of the result
  formula_fine : (n : RowMap) → HasMap c n → (g : Formula RowAtom) → Contains (formulas_in (entries_of n)) g → (a : RowAtom) → Contains (atoms_in g) a → IsFine items e from a
  formula_fine n has g there =
      let (m, has_m, same) = old_map n has in
      equal_fine items e from m n (by_entries m n same) (λ h in_m b in_h. test_fine items e f from into d own at b (inr (m, has_m, h, in_m, in_h))) g there

  map_listed : (n : RowMap) → HasMap c n → AreListed items e from into n
  map_listed n has =
      let (m, has_m, same) = old_map n has in
      let ms = forms_of (entries_of m) in
      let ns = forms_of (entries_of n) in
      let IsOld : List Form → Type 0 = λ ks. (gs : List Form) × Contains (ms ∷ []) gs × AreSameForms gs ks in
      All-head (AreFormsOf items e from into) ns []
      ((compares_go_up items).kept e f from into (one_map items ms) (ns ∷ []) at (one_listed items e f from into d own m has_m)
      (All-cons IsOld ns [] (ms, first_in ms [], equal_forms m.entries.items n.entries.items (by_entries m n same)) (All-nil IsOld)))

  -- where the atoms in guards are those of the expression
  pub trans_compared : (P : RowAtom → Type 0) → ((k : Compare) → P (Left k) → IsCompared items e from (plain_compare k)) → AtomsAre P c → AreTransCompared items e from into c
  trans_compared P to atoms = record { compares = tests; maps = map_listed }
    where
      tests : (k : Compare) → HasTest c (Left k) → IsCompared items e from (plain_compare k)
      tests k (inl own) = to k (atom_of P c atoms (Left k) own)
      tests k (inr (n, has, g, there, in_g)) = formula_fine n has g there (Left k) in_g

-- ---- definitions

pub opened_compared : (items : List Item) (n : Name) (x : X) → Opens items n.text x → (from into : List ℕ) (d : OutMachine RowAtom RowMap) → AreTransCompared items x from into d → AreTransCompared items (named n) from into d
opened_compared items n x opens from into d own = record {
  compares = λ c has. (let (k, is, same) = own.compares c has in (k, compare_opened n x from k opens is, same));
  maps = λ m has. (let (l, is, same) = own.maps m has in (l, list_opened n x from into l opens is, same));
}
