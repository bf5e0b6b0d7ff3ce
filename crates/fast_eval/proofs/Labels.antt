-- The labels of types, each made once.
use Rattle.std.proofs.Common.{◌≡◌, ◌<◌, ◌+◌, inl, inr, ℕ, suc, Bool, true, false, List, [], ◌∷◌, ◌++◌, Some, take, drop, length, get_or, map, Contains, refl, sym, ap, subst, ◌∙◌, arith}
use Rattle.std.proofs.Math.Seq.{drop-cons}
use Rattle.std.proofs.lemmas.List.{take_more, take-append-drop}
use Rattle.indexmap.specs.IndexMap.{IndexMap}
use Rattle.model_tree.specs.Signature.{Sort, sorts_of}
use Rattle.model_program.specs.Syntax.{TypeItem}
use Rattle.model_grammar.specs.Syntax.{sorts, Item}
use Rattle.model_names.specs.Declared.{same_text, find_type}
use Rattle.model_meaning.specs.Types.{signature_of}
use Rattle.fast_syntax.specs.declared.TypeItem as code_type
use Rattle.fast_syntax.specs.declared.items.Body as code_body
use Rattle.fast_syntax.specs.declared.items.Body.TheVariants.{Sorts, Tree, Lang, Trans, Def, Assert}
use Rattle.fast_syntax.specs.declared.items.Item as code
use Rattle.fast_syntax.specs.Plain.{plain_item, plain_body}
use Rattle.program_check.specs.declared.programs.Checked.{Checked}
use Rattle.fast_build.specs.Items.{items_of}
use Rattle.fast_build.proofs.Elements.{mapped_at, mapped_below}
use Rattle.model_checks.specs.Sound.{StandsIn}
use Rattle.model_checks.proofs.Soundness.{same_from_test}
use Rattle.model_checks.proofs.SoundWhole.{finds}
use Rattle.model_meaning.proofs.Members.{one_of, none_of}
use Rattle.sta_theory.proofs.Lists.{append_member, in_right, first_in}
use Rattle.fast_eval.specs.Table.{labels_of, AddsLabels, AreLabels}

module _ (items : List Item) (n : ℕ) (item : Item) (low : n < length items) (is : item ≡ get_or items n item) where
  -- where the next item stands
  pub splits_next : items ≡ take n items ++ item ∷ drop (suc n) items
  splits_next = sym (take-append-drop n items) ∙ ap (λ xs. take n items ++ xs) (drop-cons items n item low ∙ ap (λ x. x ∷ drop (suc n) items) (sym is))

  -- the items that are passed with it
  pub done_next : take (n + 1) items ≡ take n items ++ item ∷ []
  done_next = take_more items n item low ∙ ap (λ x. take n items ++ x ∷ []) (sym is)

  pub stands_next : StandsIn items item
  stands_next = record { before = take n items; behind = drop (suc n) items; is = splits_next }

-- the item at a place of a checked program
pub item_passed : (c : Checked) (xs : List code.Item) (i : ℕ) (x : code.Item) → xs ≡ c.program.items.items → i < length xs → x ≡ get_or xs i x → (i < length (items_of c)) × (plain_item x ≡ get_or (items_of c) i (plain_item x))
item_passed c xs i x whole low is =
    subst (λ (ys : List code.Item). (i < length (map plain_item ys)) × (plain_item x ≡ get_or (map plain_item ys) i (plain_item x))) whole
    (mapped_below plain_item xs i low, sym (mapped_at plain_item xs i x (plain_item x) is low))

-- an item of another kind is no type
pub no_type : (b : code_body.Body) → ((own : code_type.TypeItem) → ¬ (b ≡ Sorts own)) → (t : TypeItem) → ¬ (plain_body b ≡ sorts t)
no_type (Sorts own) other t e = other own refl
no_type (Tree own) other t e = absurd (cc)
no_type (Lang own) other t e = absurd (cc)
no_type (Trans own) other t e = absurd (cc)
no_type (Def own) other t e = absurd (cc)
no_type (Assert own) other t e = absurd (cc)

one_item : (x y : Item) → Contains (x ∷ []) y → x ≡ y
one_item x y at = elim (one_of x y [] at) [ inl same ↦ same | inr none ↦ absurd (none_of y none) ]

same_type : (t u : TypeItem) → Some t ≡ Some u → t ≡ u
same_type t u e = cc

module _ {S : Type 0} (items : List Item) where
  -- each type among these has its labels
  abbrev pub HaveLabels : List Item → IndexMap (List ℕ) (List Sort) S → Type 0
  HaveLabels done labels = (item : Item) (t : TypeItem) → Contains done item → item.body ≡ sorts t → find_type items t.name.text ≡ Some t → labels_of labels t.name.text ≡ Some (sorts_of (signature_of t))

  pub none_passed : (labels : IndexMap (List ℕ) (List Sort) S) → HaveLabels [] labels
  none_passed labels item t at = absurd (omega (arith, at.1))

  -- an item that is no type is passed
  pub passed_by : (done : List Item) (item : Item) (labels : IndexMap (List ℕ) (List Sort) S) → ((t : TypeItem) → ¬ (item.body ≡ sorts t)) → HaveLabels done labels → HaveLabels (done ++ item ∷ []) labels
  passed_by done item labels other have x t at is found = elim (append_member done (item ∷ []) x at) [
    | inl before ↦ have x t before is found
    | inr own ↦ absurd (other t (subst (λ (y : Item). y.body ≡ sorts t) (sym (one_item item x own)) is))
  ]

  -- and a type with its labels
  pub passed_with : (done : List Item) (item : Item) (own : TypeItem) (old new : IndexMap (List ℕ) (List Sort) S) → item.body ≡ sorts own → find_type items own.name.text ≡ Some own → AddsLabels items old new own.name.text
      → HaveLabels done old → HaveLabels (done ++ item ∷ []) new
  passed_with done item own old new body there adds have x t at is found = elim (append_member done (item ∷ []) x at) [
    | inl before ↦ by (same_text own.name.text t.name.text) refl before
    | inr last ↦ (let same : sorts own ≡ sorts t = sym body ∙ (ap (λ (y : Item). y.body) (one_item item x last) ∙ is) in subst (λ (u : TypeItem). labels_of new u.name.text ≡ Some (sorts_of (signature_of u))) (own_type own t same) (adds.own own there))
  ]
    where
      own_type : (t u : TypeItem) → sorts t ≡ sorts u → t ≡ u
      own_type t u e = cc

      by : (b : Bool) → same_text own.name.text t.name.text ≡ b → Contains done x → labels_of new t.name.text ≡ Some (sorts_of (signature_of t))
      by true e before = let name : own.name.text ≡ t.name.text = same_from_test own.name.text t.name.text e in
          subst (λ k. labels_of new k ≡ Some (sorts_of (signature_of t))) name (adds.own t (subst (λ k. find_type items k ≡ Some t) (sym name) found))
      by false e before = adds.same t.name.text e ∙ have x t before is found

  -- where all items are passed
  pub all_passed : (labels : IndexMap (List ℕ) (List Sort) S) → HaveLabels items labels → AreLabels items labels
  all_passed labels have name t found =
      let (item, at, is, same) = (finds items).type name t found in
      subst (λ k. labels_of labels k ≡ Some (sorts_of (signature_of t))) same (have item t (contained at) is (subst (λ k. find_type items k ≡ Some t) (sym same) found))
    where
      contained : {item : Item} → StandsIn items item → Contains items item
      contained {item} at = subst (λ xs. Contains xs item) (sym at.is) (in_right at.before (item ∷ at.behind) item (first_in item at.behind))
