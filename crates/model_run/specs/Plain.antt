-- When two output terms are the same, and transformations of which no two rules meet, or none copies a child.
use Rattle.std.specs.Prelude.{◌≡◌, ◌⊎◌, ◌<◌, ℕ, Bool, true, ◌&&◌, ◌||◌, ◌==◌, nat_lt, List, [], ◌∷◌, Some, map, slice_get}
use Rattle.fast_fault.specs.declared.place.Pos.{Pos}
use Rattle.model_tree.specs.Tree.{LabelTree}
use Rattle.model_tree.specs.Signature.{PlainField, HasType}
use Rattle.model_program.specs.Syntax.{Name}
use Rattle.model_grammar.specs.declared.Op2.TheVariants.{Compose, Restrict, RestrictOut}
use Rattle.model_grammar.specs.Syntax.{Expr, Out, child, call, node, Outs, no_out, and_out, X, named, two, OutRule, Item}
use Rattle.model_grammar.specs.Places.{bare}
use Rattle.model_form.specs.Same.{same_form}
use Rattle.model_names.specs.Declared.{out_rules_of}
use Rattle.model_meaning.specs.Types.{input_of}
use Rattle.model_meaning.specs.Meaning.{Applies}
use Rattle.model_meaning.specs.Outputs.{number_named}
use Rattle.model_meaning.specs.Reached.{Reaches, Opens}
use Rattle.model_guard.specs.Forms.{is_whole, form_of}

-- ---- the same terms

-- the children that two variables name have one place
abbrev pub IsSamePlace : List Name → Name → List Name → Name → Type 0
IsSamePlace vars y others z = number_named (map (λ v. v.text) vars) y.text ≡ number_named (map (λ v. v.text) others) z.text

module _ (fields : List PlainField) where
  -- the same written expression, places aside, or whole numbers with equal forms
  abbrev pub IsSameLabel : Expr → Expr → Type 0
  IsSameLabel d e = (bare d ≡ bare e) ⊎ ((is_whole fields d ≡ true) × (is_whole fields e ≡ true) × (same_form (form_of fields d) (form_of fields e) ≡ true))

  abbrev pub AreSameLabels : List Expr → List Expr → Type 0
  AreSameLabels [] [] = Unit {0}
  AreSameLabels [] (e ∷ es) = ⊥
  AreSameLabels (d ∷ ds) [] = ⊥
  AreSameLabels (d ∷ ds) (e ∷ es) = IsSameLabel d e × AreSameLabels ds es

  module _ (vars others : List Name) where
    abbrev mutual
      -- two terms of rules with these variables have one shape, and the same labels at each place
      pub IsSameTerm : Out → Out → Type 0
      IsSameTerm (child y) (child z) = IsSamePlace vars y others z
      IsSameTerm (child y) (call q z) = ⊥
      IsSameTerm (child y) (node n es outs) = ⊥
      IsSameTerm (call p y) (child z) = ⊥
      IsSameTerm (call p y) (call q z) = (p.text ≡ q.text) × IsSamePlace vars y others z
      IsSameTerm (call p y) (node n es outs) = ⊥
      IsSameTerm (node m ds parts) (child z) = ⊥
      IsSameTerm (node m ds parts) (call q z) = ⊥
      IsSameTerm (node m ds parts) (node n es outs) = (m.text ≡ n.text) × AreSameLabels ds es × AreSameTerms parts outs

      pub AreSameTerms : Outs → Outs → Type 0
      AreSameTerms no_out no_out = Unit {0}
      AreSameTerms no_out (and_out out outs) = ⊥
      AreSameTerms (and_out part parts) no_out = ⊥
      AreSameTerms (and_out part parts) (and_out out outs) = IsSameTerm part out × AreSameTerms parts outs

-- ---- terms that name a child twice

abbrev mutual
  -- the term names the child
  pub Names : Out → List ℕ → Type 0
  Names (child y) v = y.text ≡ v
  Names (call q y) v = y.text ≡ v
  Names (node n labels outs) v = NamesInOne outs v

  pub NamesInOne : Outs → List ℕ → Type 0
  NamesInOne no_out v = ⊥
  NamesInOne (and_out out outs) v = Names out v ⊎ NamesInOne outs v

abbrev mutual
  -- in two places
  pub NamesTwice : Out → List ℕ → Type 0
  NamesTwice (child y) v = ⊥
  NamesTwice (call q y) v = ⊥
  NamesTwice (node n labels outs) v = NamesTwiceIn outs v

  pub NamesTwiceIn : Outs → List ℕ → Type 0
  NamesTwiceIn no_out v = ⊥
  NamesTwiceIn (and_out out outs) v = NamesTwice out v ⊎ (Names out v × NamesInOne outs v) ⊎ NamesTwiceIn outs v

-- ---- plain and linear transformations

-- P holds of some name that a transformation in the expression reaches: of both parts of a composition, and of what a restriction restricts.
pub data ReachesSome (items : List Item) (P : List ℕ → Type 0) : X → Type 0 where
  at_name : (n : Name) (q : List ℕ) → Reaches items n.text q → P q → ReachesSome items P (named n)
  at_opened : (n : Name) (x : X) → Opens items n.text x → ReachesSome items P x → ReachesSome items P (named n)
  of_first : (place : Pos) (x y : X) → ReachesSome items P x → ReachesSome items P (two Compose place x y)
  of_second : (place : Pos) (x y : X) → ReachesSome items P y → ReachesSome items P (two Compose place x y)
  of_restricted : (place : Pos) (x y : X) → ReachesSome items P x → ReachesSome items P (two Restrict place x y)
  of_out_restricted : (place : Pos) (x y : X) → ReachesSome items P x → ReachesSome items P (two RestrictOut place x y)

module _ (items : List Item) where
  -- Rules are numbered from 0 here, and from 1 in a report.
  -- two rules of a transformation, the first with the smaller number, have different terms and both apply to a tree
  abbrev pub Meet : List ℕ → ℕ → ℕ → LabelTree → Type 0
  Meet q i j t =
      (i < j) × (r s : OutRule) × (slice_get (out_rules_of items q) i ≡ Some r) × (slice_get (out_rules_of items q) j ≡ Some s)
      × ¬ (IsSameTerm (input_of items q).fields r.rule.vars s.rule.vars r.out s.out)
      × HasType (input_of items q) t × Applies items (input_of items q) r.rule t × Applies items (input_of items q) s.rule t

  -- the rule of a transformation names a child twice in its term
  abbrev pub Copies : List ℕ → ℕ → OutRule → Type 0
  Copies q i r = (slice_get (out_rules_of items q) i ≡ Some r) × ((v : List ℕ) × NamesTwice r.out v)

  -- no two rules of a transformation that is reached meet
  abbrev pub IsPlain : X → Type 0
  IsPlain x = ¬ (ReachesSome items (λ q. (i j : ℕ) × (t : LabelTree) × Meet q i j t) x)

  -- no rule of one copies
  abbrev pub IsLinear : X → Type 0
  IsLinear x = ¬ (ReachesSome items (λ q. (i : ℕ) × (r : OutRule) × Copies q i r) x)

-- a place that is before another
abbrev pub is_before : Pos → Pos → Bool
is_before p q = nat_lt p.line q.line || ((p.line == q.line) && nat_lt p.column q.column)
