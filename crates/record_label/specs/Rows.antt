-- Labels of fields of several sorts, and their parts of one sort. Fields are numbered within their sort, in the order of the type.
use Rattle.std.specs.Prelude.{◌≡◌, ◌<◌, ℕ, suc, ℤ, pos, Bool, true, false, cond, List, [], ◌∷◌, length}
use Rattle.model_tree.specs.Label.{Field, whole, truth, text, Label, row, pair}
use Rattle.model_tree.specs.Signature.{Sort, wholes, truths, texts, HasSorts}
use Rattle.model_tree.specs.Kept.{is_kept_label}
use Rattle.model_label.specs.Fields.{same_sort}
use Rattle.fast_tree.specs.declared.label.Label.{Label as Coded}
use Rattle.label_core.specs.declared.theory.Verdict.{Verdict}
use Rattle.label_core.specs.declared.theory.Verdict.TheVariants.{Sat, Unsat, Wide}
use Rattle.label_core.specs.declared.pair.PairAtom.{PairAtom}
use Rattle.label_core.specs.Pair.{pair_holds, OfAtom}
use Rattle.flat_label.specs.declared.bools.BoolAtom.{BoolAtom}
use Rattle.flat_label.specs.declared.texts.TextAtom.{TextAtom}
use Rattle.flat_label.specs.Bools.{bools_label, truth_at}
use Rattle.flat_label.specs.Texts.{texts_label, are_one_text, SidesFit}
use Rattle.label_core.specs.declared.pair.PairChain.{PairChain}
use Rattle.label_core.specs.declared.pair.PairChain.TheVariants as chain
use Rattle.flat_label.specs.declared.never.Never.{Never}
use Rattle.lin_solve.specs.declared.chain.Chain.{Chain}
use Rattle.lin_solve.specs.declared.compare.Compare.{Compare}
use Rattle.lin_solve.specs.Wholes.{wholes_label, compare_at, CompareFits}
use Rattle.model_guard.specs.Forms.{wholes_in}

-- the truth values among the fields, in their order
abbrev pub truths_in : List Field → List Bool
truths_in [] = []
truths_in (whole n ∷ fields) = truths_in fields
truths_in (truth b ∷ fields) = b ∷ truths_in fields
truths_in (text t ∷ fields) = truths_in fields

-- the texts among the fields, in their order
abbrev pub texts_in : List Field → List (List ℕ)
texts_in [] = []
texts_in (whole n ∷ fields) = texts_in fields
texts_in (truth b ∷ fields) = texts_in fields
texts_in (text t ∷ fields) = t ∷ texts_in fields

-- the labels of the whole numbers, of the truth values and of the texts
abbrev pub parts_of : Label → Label
parts_of (row fields) = pair (wholes_label (wholes_in fields)) (pair (bools_label (truths_in fields)) (texts_label (texts_in fields)))
parts_of (pair l m) = pair (wholes_label []) (pair (bools_label []) (texts_label []))

-- a comparison of two forms, a field that is true, or two texts that are one
abbrev pub RowAtom : Type 0
RowAtom = PairAtom Compare (PairAtom BoolAtom TextAtom)

-- what an atom over truth values and texts says of their two labels
abbrev pub flat_holds : PairAtom BoolAtom TextAtom → Label → Bool
flat_holds = pair_holds (λ (b : BoolAtom). truth_at b.field) are_one_text

-- whether an atom holds of a label of several fields: it depends on the label alone
abbrev pub row_holds : RowAtom → Label → Bool
row_holds a l = pair_holds compare_at flat_holds a (parts_of l)

-- how many of the sorts are this one
abbrev pub count_of : Sort → List Sort → ℕ
count_of sort [] = 0
count_of sort (s ∷ sorts) = cond (same_sort s sort) (suc (count_of sort sorts)) (count_of sort sorts)

-- an atom speaks of truth values and texts that there are
abbrev pub FlatFits : List Sort → PairAtom BoolAtom TextAtom → Type 0
FlatFits sorts = OfAtom (λ (b : BoolAtom). b.field < count_of truths sorts) (SidesFit (count_of texts sorts))

-- the sides of an atom are among so many texts, if it is of texts
abbrev pub HasSides : ℕ → PairAtom BoolAtom TextAtom → Type 0
HasSides many = OfAtom (λ (b : BoolAtom). Unit {0}) (SidesFit many)

-- a chain of the whole numbers
abbrev pub IsOfNumbers : PairChain Chain (PairChain Never Never) → Type 0
IsOfNumbers (chain.Left c) = Unit {0}
IsOfNumbers (chain.Right c) = ⊥

-- an atom speaks of fields that there are
abbrev pub RowFits : List Sort → RowAtom → Type 0
RowFits sorts = OfAtom (CompareFits (count_of wholes sorts)) (FlatFits sorts)

-- a label whose fields have these sorts, and whose whole numbers are kept
abbrev pub KeepsSorts : List Sort → Label → Type 0
KeepsSorts sorts l = HasSorts sorts l × (is_kept_label l ≡ true)

-- fields of these sorts with these whole numbers, truth values and texts in their order
abbrev pub merged : List Sort → List ℤ → List Bool → List (List ℕ) → List Field
merged [] ns bs ts = []
merged (wholes ∷ sorts) [] bs ts = whole (pos 0) ∷ merged sorts [] bs ts
merged (wholes ∷ sorts) (n ∷ ns) bs ts = whole n ∷ merged sorts ns bs ts
merged (truths ∷ sorts) ns [] ts = truth false ∷ merged sorts ns [] ts
merged (truths ∷ sorts) ns (b ∷ bs) ts = truth b ∷ merged sorts ns bs ts
merged (texts ∷ sorts) ns bs [] = text [] ∷ merged sorts ns bs []
merged (texts ∷ sorts) ns bs (t ∷ ts) = text t ∷ merged sorts ns bs ts

-- as many of each as the sorts ask for
pub record AreAsMany (sorts : List Sort) (ns : List ℤ) (bs : List Bool) (ts : List (List ℕ)) : Type 0 where
  pub numbers : length ns ≡ count_of wholes sorts
  pub truths : length bs ≡ count_of truths sorts
  pub texts : length ts ≡ count_of texts sorts

-- a label of which this is so
abbrev pub IsFound : (Coded → Type 0) → Verdict Coded Chain → Type 0
IsFound is (Sat l) = is l
IsFound is Unsat = ⊥
IsFound is (Wide c) = ⊥
