-- Facts on the parts of labels of several fields.
use Rattle.std.proofs.Common.{◌≡◌, ◌≤◌, ◌^◌, ◌&&◌, ℕ, suc, Bool, true, false, cond, List, [], ◌∷◌, map, length, refl, ap, sym, ◌∙◌, subst, arith}
use Rattle.std.proofs.Math.IntN.{ℤ, pos, negsuc}
use Rattle.std.specs.Prelude.{FitsSigned}
use Rattle.std.specs.Int.{w64}
use Rattle.std.specs.List.{list_all}
use Rattle.std.proofs.lemmas.Bool.{lt-ltb, ltb-true, and_parts}
use Rattle.std.proofs.lemmas.List.{length-map}
use Rattle.std.proofs.lemmas.List.Elements.{All-nil, All-cons, All-head, All-tail}
use Rattle.model_tree.specs.Limits.{most_fields}
use Rattle.model_tree.specs.Label.{Field, whole, truth, text, Label, row, pair}
use Rattle.model_tree.specs.Signature.{Sort, wholes, truths, texts, PlainField, sort_of, have_sorts, HasSorts}
use Rattle.fast_tree.specs.declared.signature.Sort.{Sort as Coded}
use Rattle.fast_tree.specs.declared.signature.FieldOf.{FieldOf}
use Rattle.fast_tree.specs.Signatures.{plain_sort, plain_field}
use Rattle.fast_tree.specs.Entries.{field_of, label_meaning}
use Rattle.fast_tree.specs.declared.label.Value.{Value}
use Rattle.fast_tree.specs.declared.label.Value.TheVariants as values
use Rattle.fast_tree.specs.declared.label.Label.{Label as Coded'}
use Rattle.label_core.specs.Verdict.{DecidesAll}
use Rattle.label_core.specs.declared.theory.Verdict.{Verdict}
use Rattle.label_core.specs.declared.theory.Verdict.TheVariants.{Sat, Unsat, Wide}
use Rattle.record_label.specs.Meaning.{row_meaning}
use Rattle.model_tree.proofs.Sorts.{own_sorts, have_these_sorts}
use Rattle.model_label.specs.Fields.{same_sort}
use Rattle.model_tree.specs.Kept.{is_kept_field}
use Rattle.model_form.proofs.Over.{AgreeBelow}
use Rattle.model_chain.specs.Literals.{compare_holds}
use Rattle.model_guard.specs.Forms.{wholes_in}
use Rattle.label_core.specs.declared.theory.Lit.{Lit}
use Rattle.label_core.specs.declared.pair.PairAtom.{PairAtom}
use Rattle.label_core.specs.declared.pair.PairAtom.TheVariants.{Left, Right}
use Rattle.label_core.specs.declared.pair.PairChain.{PairChain}
use Rattle.label_core.specs.declared.pair.PairChain.TheVariants as chain
use Rattle.label_core.specs.Lit.{SatisfiesAll}
use Rattle.label_core.specs.Pair.{HasParts, pair_holds, OfChain}
use Rattle.flat_label.specs.declared.bools.BoolAtom.{BoolAtom}
use Rattle.flat_label.specs.declared.texts.TextAtom.{TextAtom}
use Rattle.flat_label.specs.declared.texts.TextSide.{TextSide}
use Rattle.flat_label.specs.declared.never.Never.{Never}
use Rattle.flat_label.specs.Bools.{bools_label, truth_at, IsBools}
use Rattle.flat_label.specs.Bools as bools
use Rattle.flat_label.specs.Texts.{texts_label, are_one_text, IsTexts, SideFits, SidesFit}
use Rattle.flat_label.specs.Texts as texts_of
use Rattle.lin_solve.specs.declared.chain.Chain.{Chain}
use Rattle.lin_solve.specs.declared.compare.Compare.{Compare}
use Rattle.lin_solve.specs.Plain.{plain_compare}
use Rattle.lin_solve.specs.Shown.{AllKept}
use Rattle.lin_solve.specs.Wholes.{wholes_label, compare_at, IsWholes, KeepsWholes, CompareFits}
use Rattle.lin_solve.specs.Equal.{wholes_back, one_label}
use Rattle.lin_solve.proofs.Labels.{agree}
use Rattle.record_label.specs.Rows.{truths_in, texts_in, parts_of, RowAtom, flat_holds, row_holds, count_of, FlatFits, HasSides, IsOfNumbers, KeepsSorts, merged, AreAsMany, IsFound}

-- ---- what is kept

kept_number : (n : ℤ) → FitsSigned w64 n → is_kept_field (whole n) ≡ true
kept_number (pos n) h = lt-ltb n (2 ^ 63) h.sfits
kept_number (negsuc n) h = lt-ltb n (2 ^ 63) h.sfits

number_fits : (n : ℤ) → is_kept_field (whole n) ≡ true → FitsSigned w64 n
number_fits (pos n) h = record { sfits = ltb-true n (2 ^ 63) h }
number_fits (negsuc n) h = record { sfits = ltb-true n (2 ^ 63) h }

pub numbers_fit : (fields : List Field) → list_all is_kept_field fields ≡ true → AllKept (wholes_in fields)
numbers_fit [] h = All-nil (FitsSigned w64)
numbers_fit (whole n ∷ fields) h = let both = and_parts (is_kept_field (whole n)) (list_all is_kept_field fields) h in All-cons (FitsSigned w64) n (wholes_in fields) (number_fits n both.0) (numbers_fit fields both.1)
numbers_fit (truth b ∷ fields) h = numbers_fit fields h
numbers_fit (text t ∷ fields) h = numbers_fit fields h

-- ---- there are as many numbers, truth values and texts as their sorts

pub no_text : (v : Value) (rest : List Value) → ((t : List ℕ) → v ≡ values.Text t → ⊥) → texts_in (map field_of (v ∷ rest)) ≡ texts_in (map field_of rest)
no_text (values.Int n) rest other = refl
no_text (values.Bool b) rest other = refl
no_text (values.Text t) rest other = absurd (other t refl)

pub no_truth : (v : Value) (rest : List Value) → ((b : Bool) → v ≡ values.Bool b → ⊥) → truths_in (map field_of (v ∷ rest)) ≡ truths_in (map field_of rest)
no_truth (values.Int n) rest other = refl
no_truth (values.Bool b) rest other = absurd (other b refl)
no_truth (values.Text t) rest other = refl

pub count_of_wholes : (fields : List Field) → length (wholes_in fields) ≡ count_of wholes (map sort_of fields)
count_of_wholes [] = refl
count_of_wholes (whole n ∷ fields) = ap suc (count_of_wholes fields)
count_of_wholes (truth b ∷ fields) = count_of_wholes fields
count_of_wholes (text t ∷ fields) = count_of_wholes fields

pub count_of_truths : (fields : List Field) → length (truths_in fields) ≡ count_of truths (map sort_of fields)
count_of_truths [] = refl
count_of_truths (whole n ∷ fields) = count_of_truths fields
count_of_truths (truth b ∷ fields) = ap suc (count_of_truths fields)
count_of_truths (text t ∷ fields) = count_of_truths fields

pub count_of_texts : (fields : List Field) → length (texts_in fields) ≡ count_of texts (map sort_of fields)
count_of_texts [] = refl
count_of_texts (whole n ∷ fields) = count_of_texts fields
count_of_texts (truth b ∷ fields) = count_of_texts fields
count_of_texts (text t ∷ fields) = ap suc (count_of_texts fields)

pub sides_fit : (sorts : List Sort) (fields : List Field) (a : TextAtom) → map sort_of fields ≡ sorts → SidesFit (count_of texts sorts) a → SidesFit (length (texts_in fields)) a
sides_fit sorts fields a is fits = subst (λ n. SidesFit n a) (ap (count_of texts) (sym is) ∙ sym (count_of_texts fields)) fits

-- a comparison holds of the numbers of a label, of which the first eight are looked at
pub compare_is : (sorts : List Sort) (fields : List Field) (c : Compare) (ns : List ℤ) → count_of wholes sorts ≤ most_fields → CompareFits (count_of wholes sorts) c → AgreeBelow 8 ns (wholes_in fields) → compare_holds (plain_compare c) ns ≡ compare_at c (wholes_label (wholes_in fields))
compare_is sorts fields c ns few fits same =
    agree (count_of wholes sorts) c ns (wholes_in fields) (λ k l. same k (omega (arith, l, few))) fits ∙ ap (compare_holds (plain_compare c)) (sym (wholes_back (wholes_in fields)))

pub count_few : (sort : Sort) (sorts : List Sort) → count_of sort sorts ≤ length sorts
count_few sort [] = omega arith
count_few sort (s ∷ sorts) = by (same_sort s sort) (count_few sort sorts)
  where
    by : (b : Bool) → count_of sort sorts ≤ length sorts → cond b (suc (count_of sort sorts)) (count_of sort sorts) ≤ suc (length sorts)
    by true h = omega (arith, h)
    by false h = omega (arith, h)

-- the sorts of fields, as they are seen
pub seen_sorts : (fields : List FieldOf) → map (λ (f : FieldOf). plain_sort f.sort) fields ≡ map (λ (f : PlainField). f.sort) (map plain_field fields)
seen_sorts [] = refl
seen_sorts (f ∷ fields) = ap (λ sorts. plain_sort f.sort ∷ sorts) (seen_sorts fields)

-- there are no more whole numbers than fields
pub few_wholes : (fields : List Coded) (sorts : List Sort) → length fields ≤ most_fields → map plain_sort fields ≡ sorts → count_of wholes sorts ≤ most_fields
few_wholes fields sorts few is = subst (λ seen. count_of wholes seen ≤ most_fields) is (let all = count_few wholes (map plain_sort fields) in let many = length-map fields plain_sort in omega (arith, all, many, few))

abbrev HasThree : List Sort → Label → Type 0
HasThree sorts = HasParts (IsWholes (count_of wholes sorts)) (HasParts (IsBools (count_of truths sorts)) (IsTexts (count_of texts sorts)))

abbrev KeepsThree : List Sort → Label → Type 0
KeepsThree sorts = HasParts (KeepsWholes (count_of wholes sorts)) (HasParts (IsBools (count_of truths sorts)) (IsTexts (count_of texts sorts)))

pub side_fits_in : (sorts : List Sort) (fields : List Field) (s : TextSide) → map sort_of fields ≡ sorts → SideFits (count_of texts sorts) s → SideFits (length (texts_in fields)) s
side_fits_in sorts fields s is fits = subst (λ n. SideFits n s) (ap (count_of texts) (sym is) ∙ sym (count_of_texts fields)) fits

pub has_parts : (sorts : List Sort) (l : Label) → HasSorts sorts l → HasThree sorts (parts_of l)
has_parts sorts (row fields) has =
    let is = own_sorts sorts fields has in ((wholes_in fields, count_of_wholes fields ∙ ap (count_of wholes) is, refl), ((truths_in fields, count_of_truths fields ∙ ap (count_of truths) is, refl), (texts_in fields, count_of_texts fields ∙ ap (count_of texts) is, refl)))
has_parts sorts (pair l m) is = absurd is

pub keeps_parts : (sorts : List Sort) (l : Label) → KeepsSorts sorts l → KeepsThree sorts (parts_of l)
keeps_parts sorts (row fields) (has, kept) =
    let is = own_sorts sorts fields has in ((wholes_in fields, count_of_wholes fields ∙ ap (count_of wholes) is, numbers_fit fields kept, refl), ((truths_in fields, count_of_truths fields ∙ ap (count_of truths) is, refl), (texts_in fields, count_of_texts fields ∙ ap (count_of texts) is, refl)))
keeps_parts sorts (pair l m) (is, kept) = absurd is

-- ---- labels made of their parts

pub merged_sorts : (sorts : List Sort) (ns : List ℤ) (bs : List Bool) (ts : List (List ℕ)) → map sort_of (merged sorts ns bs ts) ≡ sorts
merged_sorts [] ns bs ts = refl
merged_sorts (wholes ∷ sorts) [] bs ts = ap (λ ss. wholes ∷ ss) (merged_sorts sorts [] bs ts)
merged_sorts (wholes ∷ sorts) (n ∷ ns) bs ts = ap (λ ss. wholes ∷ ss) (merged_sorts sorts ns bs ts)
merged_sorts (truths ∷ sorts) ns [] ts = ap (λ ss. truths ∷ ss) (merged_sorts sorts ns [] ts)
merged_sorts (truths ∷ sorts) ns (b ∷ bs) ts = ap (λ ss. truths ∷ ss) (merged_sorts sorts ns bs ts)
merged_sorts (texts ∷ sorts) ns bs [] = ap (λ ss. texts ∷ ss) (merged_sorts sorts ns bs [])
merged_sorts (texts ∷ sorts) ns bs (t ∷ ts) = ap (λ ss. texts ∷ ss) (merged_sorts sorts ns bs ts)

merged_have : (sorts : List Sort) (ns : List ℤ) (bs : List Bool) (ts : List (List ℕ)) → have_sorts sorts (merged sorts ns bs ts) ≡ true
merged_have sorts ns bs ts = have_these_sorts sorts (merged sorts ns bs ts) (merged_sorts sorts ns bs ts)

merged_kept : (sorts : List Sort) (ns : List ℤ) (bs : List Bool) (ts : List (List ℕ)) → AllKept ns → list_all is_kept_field (merged sorts ns bs ts) ≡ true
merged_kept [] ns bs ts fit = refl
merged_kept (wholes ∷ sorts) [] bs ts fit = merged_kept sorts [] bs ts fit
merged_kept (wholes ∷ sorts) (n ∷ ns) bs ts fit = λ i. kept_number n (All-head (FitsSigned w64) n ns fit) i && merged_kept sorts ns bs ts (All-tail (FitsSigned w64) n ns fit) i
merged_kept (truths ∷ sorts) ns [] ts fit = merged_kept sorts ns [] ts fit
merged_kept (truths ∷ sorts) ns (b ∷ bs) ts fit = merged_kept sorts ns bs ts fit
merged_kept (texts ∷ sorts) ns bs [] fit = merged_kept sorts ns bs [] fit
merged_kept (texts ∷ sorts) ns bs (t ∷ ts) fit = merged_kept sorts ns bs ts fit

merged_wholes : (sorts : List Sort) (ns : List ℤ) (bs : List Bool) (ts : List (List ℕ)) → length ns ≡ count_of wholes sorts → wholes_in (merged sorts ns bs ts) ≡ ns
merged_wholes [] [] bs ts e = refl
merged_wholes [] (n ∷ ns) bs ts e = absurd (omega arith)
merged_wholes (wholes ∷ sorts) [] bs ts e = absurd (omega arith)
merged_wholes (wholes ∷ sorts) (n ∷ ns) bs ts e = ap (λ ms. n ∷ ms) (merged_wholes sorts ns bs ts (omega arith))
merged_wholes (truths ∷ sorts) ns [] ts e = merged_wholes sorts ns [] ts e
merged_wholes (truths ∷ sorts) ns (b ∷ bs) ts e = merged_wholes sorts ns bs ts e
merged_wholes (texts ∷ sorts) ns bs [] e = merged_wholes sorts ns bs [] e
merged_wholes (texts ∷ sorts) ns bs (t ∷ ts) e = merged_wholes sorts ns bs ts e

merged_truths : (sorts : List Sort) (ns : List ℤ) (bs : List Bool) (ts : List (List ℕ)) → length bs ≡ count_of truths sorts → truths_in (merged sorts ns bs ts) ≡ bs
merged_truths [] ns [] ts e = refl
merged_truths [] ns (b ∷ bs) ts e = absurd (omega arith)
merged_truths (wholes ∷ sorts) [] bs ts e = merged_truths sorts [] bs ts e
merged_truths (wholes ∷ sorts) (n ∷ ns) bs ts e = merged_truths sorts ns bs ts e
merged_truths (truths ∷ sorts) ns [] ts e = absurd (omega arith)
merged_truths (truths ∷ sorts) ns (b ∷ bs) ts e = ap (λ cs. b ∷ cs) (merged_truths sorts ns bs ts (omega arith))
merged_truths (texts ∷ sorts) ns bs [] e = merged_truths sorts ns bs [] e
merged_truths (texts ∷ sorts) ns bs (t ∷ ts) e = merged_truths sorts ns bs ts e

merged_texts : (sorts : List Sort) (ns : List ℤ) (bs : List Bool) (ts : List (List ℕ)) → length ts ≡ count_of texts sorts → texts_in (merged sorts ns bs ts) ≡ ts
merged_texts [] ns bs [] e = refl
merged_texts [] ns bs (t ∷ ts) e = absurd (omega arith)
merged_texts (wholes ∷ sorts) [] bs ts e = merged_texts sorts [] bs ts e
merged_texts (wholes ∷ sorts) (n ∷ ns) bs ts e = merged_texts sorts ns bs ts e
merged_texts (truths ∷ sorts) ns [] ts e = merged_texts sorts ns [] ts e
merged_texts (truths ∷ sorts) ns (b ∷ bs) ts e = merged_texts sorts ns bs ts e
merged_texts (texts ∷ sorts) ns bs [] e = absurd (omega arith)
merged_texts (texts ∷ sorts) ns bs (t ∷ ts) e = ap (λ us. t ∷ us) (merged_texts sorts ns bs ts (omega arith))

abbrev three : List ℤ → List Bool → List (List ℕ) → Label
three ns bs ts = pair (wholes_label ns) (pair (bools_label bs) (texts_label ts))

pub merged_parts : (sorts : List Sort) (ns : List ℤ) (bs : List Bool) (ts : List (List ℕ)) → length ns ≡ count_of wholes sorts → length bs ≡ count_of truths sorts → length ts ≡ count_of texts sorts → three ns bs ts ≡ parts_of (row (merged sorts ns bs ts))
merged_parts sorts ns bs ts e f g = λ i. three (sym (merged_wholes sorts ns bs ts e) i) (sym (merged_truths sorts ns bs ts f) i) (sym (merged_texts sorts ns bs ts g) i)

-- a chain of three theories is one of the whole numbers
pub of_numbers : (F : Chain → Type 0) (d : PairChain Chain (PairChain Never Never)) → OfChain F (OfChain (λ c. ⊥) (λ c. ⊥)) d → IsOfNumbers d
of_numbers F (chain.Left c) h = tt
of_numbers F (chain.Right (chain.Left c)) h = absurd h
of_numbers F (chain.Right (chain.Right c)) h = absurd h

pub has_sides : (sorts : List Sort) (fields : List Field) (a : PairAtom BoolAtom TextAtom) → map sort_of fields ≡ sorts → FlatFits sorts a → HasSides (length (texts_in fields)) a
has_sides sorts fields (Left b) is fits = tt
has_sides sorts fields (Right a) is fits = sides_fit sorts fields a is fits

module _ (sorts : List Sort) (lits : List (Lit RowAtom)) where
  abbrev Satisfies : Label → Type 0
  Satisfies = SatisfiesAll (pair_holds compare_at flat_holds) lits

  -- there are as many values as the sorts ask for, and the label made of those that satisfy all does so too
  module _ (ns : List ℤ) (bs : List Bool) (ts : List (List ℕ)) where
    pub as_many : KeepsThree sorts (three ns bs ts) → AreAsMany sorts ns bs ts
    as_many ((ms, many, kept, is), rest) = record {
      numbers = ap length (one_label ns ms is) ∙ many;
      truths = bools.length_of_label (count_of truths sorts) bs rest.0;
      texts = texts_of.length_of_label (count_of texts sorts) ts rest.1;
    }

    all_kept : KeepsThree sorts (three ns bs ts) → AllKept ns
    all_kept ((ms, many, kept, is), rest) = subst AllKept (sym (one_label ns ms is)) kept

    pub merged_satisfies : KeepsThree sorts (three ns bs ts) → Satisfies (three ns bs ts) → (v : Verdict Coded' Chain) → IsFound (λ l. label_meaning l ≡ row (merged sorts ns bs ts)) v → DecidesAll (row_meaning sorts) lits v
    merged_satisfies keeps all (Sat l) made =
        let many = as_many keeps in
        subst (λ m. KeepsSorts sorts m × SatisfiesAll row_holds lits m) (sym made)
        ((merged_have sorts ns bs ts, merged_kept sorts ns bs ts (all_kept keeps)), subst Satisfies (merged_parts sorts ns bs ts many.numbers many.truths many.texts) all)
    merged_satisfies keeps all Unsat made = absurd made
    merged_satisfies keeps all (Wide c) made = absurd made

  -- where no parts satisfy all, no label does
  pub none_satisfies : ((m : Label) → HasThree sorts m → ¬ (Satisfies m)) → (l : Label) → HasSorts sorts l → ¬ (SatisfiesAll row_holds lits l)
  none_satisfies none l is all = none (parts_of l) (has_parts sorts l is) all

  pub kept_none : ((m : Label) → KeepsThree sorts m → ¬ (Satisfies m)) → (l : Label) → KeepsSorts sorts l → ¬ (SatisfiesAll row_holds lits l)
  kept_none none l is all = none (parts_of l) (keeps_parts sorts l is) all

  -- where some parts do, some label does
  pub some_satisfies : (m : Label) × HasThree sorts m × Satisfies m → (l : Label) × HasSorts sorts l × SatisfiesAll row_holds lits l
  some_satisfies (row fields, has, all) = absurd has
  some_satisfies (pair l (row fields), has, all) = absurd has.1
  some_satisfies (pair l (pair m k), ((ns, many, is), ((bs, many', is'), (ts, many'', is''))), all) =
      (row (merged sorts ns bs ts), merged_have sorts ns bs ts, subst Satisfies ((λ i. pair (is i) (pair (is' i) (is'' i))) ∙ merged_parts sorts ns bs ts many many' many'') all)
