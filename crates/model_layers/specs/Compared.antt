-- The comparisons and the label lists of what was built for an expression are those of the expression, up to equal forms; and
-- numbers that are out of range are those of its forms. An automaton is taken here by the comparisons in its guards, a
-- transducer besides by the forms of the whole numbers that each of its maps makes.
use Rattle.std.specs.Prelude.{◌≡◌, ◌⊎◌, ℕ, ℤ, true, List, [], ◌∷◌, ◌++◌, Some, map}
use Rattle.std.specs.List.{All, Contains}
use Rattle.fast_fault.specs.declared.place.Pos.{Pos}
use Rattle.model_tree.specs.Label.{Label}
use Rattle.model_tree.specs.Kept.{is_kept_label}
use Rattle.model_form.specs.Form.{Form}
use Rattle.model_form.specs.Same.{same_form}
use Rattle.model_form.specs.Sums.{subst_form}
use Rattle.model_form.specs.Ranges.{IsOutside, IsOutsideAfter}
use Rattle.model_chain.specs.Literals.{Compare}
use Rattle.model_chain.specs.Chains.{Chain, Passes}
use Rattle.model_sta.specs.Pairwise.{Pairwise}
use Rattle.model_sta.specs.EachTwo.{EachTwo}
use Rattle.model_sta.specs.Automaton.{Rule}
use Rattle.model_sta.specs.Operations.{AgreeIn}
use Rattle.model_sta.specs.Told.{AgreeInBoth, HasFar}
use Rattle.model_sttr.specs.Transducer.{Sttr}
use Rattle.model_sttr.specs.Guards.{AgreeOn}
use Rattle.model_program.specs.Syntax.{Name}
use Rattle.model_grammar.specs.declared.Op2.TheVariants.{Compose}
use Rattle.model_grammar.specs.Syntax.{X, named, two, Item}
use Rattle.model_names.specs.Kinds.{output_of}
use Rattle.model_meaning.specs.Reached.{Opens}
use Rattle.model_run.specs.Parts.{operands, LooksBack}
use Rattle.model_run.specs.Seen.{LabelList, list_forms, IsLabelList, IsCompare, IsFormOf, IsSameCompare, IsSameLiteral, IsLabelOf}
use Rattle.model_run.specs.Causes.{IsTooWide}
use Rattle.model_layers.specs.Seen.{IsSeen, IsSeenTrans}

-- ---- comparisons and forms alone

-- the comparison is the same as one of these
abbrev pub IsOneOf : List Compare → Compare → Type 0
IsOneOf cs c = (d : Compare) × Contains cs d × IsSameCompare d c

abbrev pub AreSameForms : List Form → List Form → Type 0
AreSameForms = Pairwise (λ f g. same_form f g ≡ true)

-- forms put for the fields of a comparison, and of several forms
abbrev pub put_forms : List Form → Compare → Compare
put_forms ms c = record { left = subst_form c.left ms; relation = c.relation; right = subst_form c.right ms }

abbrev pub chained_forms : List Form → List Form → List Form
chained_forms ms ns = map (λ f. subst_form f ms) ns

-- what of a transducer counts here
pub record TransducerForms : Type 0 where
  pub compares : List Compare
  pub maps : List (List Form)

-- Of two arguments: each comparison of the result is the same as one of theirs.
abbrev pub AreOfBoth : List Compare → List Compare → List Compare → Type 0
AreOfBoth firsts seconds cs = All (λ c. IsOneOf firsts c ⊎ IsOneOf seconds c) cs

-- Of a transducer and what is asked of its outputs: as one of the transducer's, as one that is asked with a map put for the
-- fields, or where a child may be given unchanged as one that is asked.
abbrev pub IsPutOf : Type 0 → TransducerForms → List Compare → Compare → Type 0
IsPutOf Unchanged f asked c =
    IsOneOf f.compares c ⊎ ((ms : List Form) × Contains f.maps ms × (d : Compare) × Contains asked d × IsSameCompare (put_forms ms d) c) ⊎ (Unchanged × IsOneOf asked c)

-- each map is the same as one of the transducer's
abbrev pub AreOldMaps : TransducerForms → List (List Form) → Type 0
AreOldMaps f maps = All (λ ks. (ms : List Form) × Contains f.maps ms × AreSameForms ms ks) maps

-- Of two transducers, one after the other, of which the first or the second may give a child unchanged.
abbrev pub IsChainOf : Type 0 → Type 0 → TransducerForms → TransducerForms → List Form → Type 0
IsChainOf First Second f g ks =
    ((ms ns : List Form) × Contains f.maps ms × Contains g.maps ns × AreSameForms (chained_forms ms ns) ks)
    ⊎ (Second × (ms : List Form) × Contains f.maps ms × AreSameForms ms ks)
    ⊎ (First × (ns : List Form) × Contains g.maps ns × AreSameForms ns ks)

-- ---- of what was built for an expression

module _ (items : List Item) where
  -- each comparison is the same as one of the expression
  abbrev pub AreCompared : X → List ℕ → List Compare → Type 0
  AreCompared e type cs = All (λ c. (d : Compare) × IsCompare items e type d × IsSameCompare d c) cs

  -- and each map the same as a label list of it
  pub record AreComparedTrans (e : X) (from into : List ℕ) (f : TransducerForms) : Type 0 where
    pub compares : AreCompared e from f.compares
    pub maps : All (λ ms. (m : LabelList) × IsLabelList items e from into m × AreSameForms (list_forms m) ms) f.maps

-- what operations owe of comparisons and maps
pub record ComparesGoUp (items : List Item) : Type 0 where
  pub of_operands : (e x y : X) (type : List ℕ) (firsts seconds cs : List Compare) → Contains (operands e) x → Contains (operands e) y → AreCompared items x type firsts → AreCompared items y type seconds → AreOfBoth firsts seconds cs → AreCompared items e type cs
  pub put : (e x y : X) (from into : List ℕ) (f : TransducerForms) (asked cs : List Compare) → LooksBack e x y → Contains (operands e) x → Contains (operands e) y → output_of items x ≡ Some into
      → AreComparedTrans items x from into f → AreCompared items y into asked → All (IsPutOf (from ≡ into) f asked) cs → AreCompared items e from cs
  pub kept : (e x : X) (from into : List ℕ) (f : TransducerForms) (maps : List (List Form)) → Contains (operands e) x → AreComparedTrans items x from into f → AreOldMaps f maps
      → All (λ ks. (m : LabelList) × IsLabelList items e from into m × AreSameForms (list_forms m) ks) maps
  pub chained : (place : Pos) (x y : X) (from into last : List ℕ) (f g : TransducerForms) (maps : List (List Form)) → output_of items x ≡ Some into → AreComparedTrans items x from into f → AreComparedTrans items y into last g
      → All (IsChainOf (from ≡ into) (into ≡ last) f g) maps → All (λ ks. (m : LabelList) × IsLabelList items (two Compose place x y) from last m × AreSameForms (list_forms m) ks) maps
  pub opened : (n : Name) (x : X) (type : List ℕ) (cs : List Compare) → Opens items n.text x → AreCompared items x type cs → AreCompared items (named n) type cs
  pub opened_maps : (n : Name) (x : X) (from into : List ℕ) (f : TransducerForms) → Opens items n.text x → AreComparedTrans items x from into f → AreComparedTrans items (named n) from into f

-- a number that a form of the expression has out of its range
abbrev pub HasOutside : List Item → X → ℤ → Type 0
HasOutside items e n = (f : Form) × IsFormOf items e f × IsOutside f n

-- a number that stops a put is one of a form of the expression
pub record NumbersGoUp (items : List Item) : Type 0 where
  pub put : (e x y : X) (from into : List ℕ) (f : TransducerForms) (asked : List Compare) → LooksBack e x y → output_of items x ≡ Some into → AreComparedTrans items x from into f → AreCompared items y into asked
      → (ms : List Form) → Contains f.maps ms → (c : Compare) → Contains asked c → (n : ℤ) → IsOutsideAfter c.left ms n ⊎ IsOutsideAfter c.right ms n → HasOutside items e n
  pub chained : (place : Pos) (x y : X) (from into last : List ℕ) (f g : TransducerForms) → output_of items x ≡ Some into → AreComparedTrans items x from into f → AreComparedTrans items y into last g
      → (ms ns : List Form) → Contains f.maps ms → Contains g.maps ns → (h : Form) → Contains ns h → (n : ℤ) → IsOutsideAfter h ms n → HasOutside items (two Compose place x y) n

-- ---- chains

-- a chain over these comparisons, no literal twice, passes the width; where that is 64, some label of the type agrees with no kept one
pub record IsWideOver (items : List Item) (type : List ℕ) (cs : List Compare) (Agree : Label → Label → Type 0) (width : ℕ) : Type 0 where
  pub chain : Chain
  pub over : All (λ l. IsOneOf cs l.compare) chain.literals
  pub once : EachTwo (λ l m. ¬ (IsSameLiteral l m)) chain.literals
  pub passes : Passes width chain
  pub far : width ≡ 64 → HasFar (IsLabelOf items type) is_kept_label Agree

pub record WidthsGoUp (items : List Item) (type : List ℕ) (width : ℕ) : Type 0 where
  pub of_one : (e : X) (cs : List Compare) (rules : List (List (Rule Label))) → AreCompared items e type cs → IsSeen items e type rules → IsWideOver items type cs (AgreeIn rules) width → IsTooWide items (e ∷ []) width
  pub of_two : (x y : X) (firsts seconds : List Compare) (first second : List (List (Rule Label))) → AreCompared items x type firsts → AreCompared items y type seconds → IsSeen items x type first → IsSeen items y type second
      → IsWideOver items type (firsts ++ seconds) (AgreeInBoth first second) width → IsTooWide items (x ∷ y ∷ []) width
  pub of_transducer : (e : X) (into : List ℕ) (cs : List Compare) (f : Sttr Label) → AreCompared items e type cs → IsSeenTrans items e type into f → IsWideOver items type cs (AgreeOn f) width → IsTooWide items (e ∷ []) width
