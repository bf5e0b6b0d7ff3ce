-- The automaton of a language carries the language.
use Rattle.std.proofs.Common.{◌≡◌, inl, inr, ℕ, ◌<◌, ◌≤◌, List, [], ◌∷◌, ◌⊎◌, Option, Some, None, map, length, get_or, All, Contains, refl, sym, ap, subst, ◌∙◌, arith}
use Rattle.std.proofs.lemmas.Bool.{cases_lt}
use Rattle.std.proofs.lemmas.List.{get_or-map, get_or_past, length-map}
use Rattle.model_tree.specs.Label.{Label}
use Rattle.model_tree.specs.Tree.{LabelTree}
use Rattle.model_tree.specs.Signature.{HasType, HasSorts, sorts_of}
use Rattle.model_tree.specs.Formula.{Formula, yes, formula_holds}
use Rattle.model_program.specs.Syntax.{Name}
use Rattle.model_grammar.specs.Syntax.{Expr, named, Item}
use Rattle.model_names.specs.Declared.{name_of}
use Rattle.model_names.specs.Kinds.{type_of}
use Rattle.model_meaning.specs.Types.{input_of, values_of}
use Rattle.model_meaning.specs.Meaning.{signature_named}
use Rattle.model_meaning.specs.Reached.{Reaches}
use Rattle.model_meaning.proofs.Named.{input_type_of_name}
use Rattle.model_label.specs.Meaning.{is_true}
use Rattle.model_sta.specs.Automaton.{Rule}
use Rattle.model_sta.specs.Automaton as automata
use Rattle.model_run.specs.Seen.{of_language, IsLabelOf}
use Rattle.model_layers.specs.Carries.{IsTyped}
use Rattle.model_layers.specs.Written.{IsLanguageFor, IsWrittenGuard, AreWrittenGuards, AreLanguagesReached}
use Rattle.model_layers.proofs.Names.{names_are_carried, names_are_seen}
use Rattle.sta_core.specs.Machine.{Machine, PlainRule}
use Rattle.sta_core.specs.Sta.{rule_meaning, automaton_of}
use Rattle.record_label.specs.Rows.{RowAtom, row_holds}
use Rattle.fast_build.specs.Rules.{IsGuardFor}
use Rattle.fast_build.specs.Automaton.{IsGuardReached, IsAutomatonOf}
use Rattle.fast_build.specs.Carried.{IsBuiltFor}
use Rattle.fast_build.proofs.Guarding.{guard_means}

-- what holds of each rule of a machine holds of each rule that it means
module _ (P : Rule Label → Type 0) (rules : List (List (PlainRule RowAtom))) (each : All (λ those. All (λ p. P (rule_meaning row_holds p)) those) rules) where
  abbrev pub blank : PlainRule RowAtom
  blank = record { constructor = 0; guard = yes; demands = [] }

  abbrev pub means : PlainRule RowAtom → Rule Label
  means = rule_meaning row_holds

  below : (q : ℕ) (r : Rule Label) → q < length rules → Contains (automata.rules_of (map (map means) rules) q) r → P r
  below q r low (i, within, at) =
      let same : get_or (map (map means) rules) q [] ≡ map means (get_or rules q []) = get_or-map (map means) rules q [] [] low in
      let within' : i < length (map means (get_or rules q [])) = subst (λ rs. i < length rs) same within in
      let within'' : i < length (get_or rules q []) = subst (λ n. i < n) (length-map (get_or rules q []) means) within' in
      let at' : get_or (map means (get_or rules q [])) i r ≡ r = ap (λ rs. get_or rs i r) (sym same) ∙ at in
      subst P (sym (get_or-map means (get_or rules q []) i blank r within'') ∙ at') (each q [] low i blank within'')

  pub of_each : (q : ℕ) (r : Rule Label) → Contains (automata.rules_of (map (map means) rules) q) r → P r
  of_each q r (i, within, at) = by (cases_lt q (length rules))
    where
      none : length rules ≤ q → P r
      none past =
          let many : length (map (map means) rules) ≡ length rules = length-map rules (map means) in
          let empty : get_or (map (map means) rules) q [] ≡ [] = get_or_past (map (map means) rules) q [] (omega (arith, past, many)) in
          let no : i < length (get_or (map (map means) rules) q []) = within in
          let no' : i < 0 = subst (λ rs. i < length rs) empty no in
          absurd (omega (arith, no'))

      by : (q < length rules) ⊎ (length rules ≤ q) → P r
      by (inl low) = below q r low (i, within, at)
      by (inr past) = none past

module _ (items : List Item) (n : Name) (type : List ℕ) (m : Machine RowAtom) (on : type_of items (named n) ≡ Some type) (is : IsAutomatonOf items n.text m) where
  abbrev pub rules : List (List (Rule Label))
  rules = automaton_of row_holds m

  type_is : signature_named items (Some type) ≡ input_of items n.text
  type_is = ap (signature_named items) (sym on) ∙ input_type_of_name items n

  typed : (t : LabelTree) → IsTyped items type t → HasType (input_of items n.text) t
  typed t h = subst (λ s. HasType s t) type_is h

  many : length rules ≡ length (n.text ∷ is.others)
  many = length-map m.rules (map (rule_meaning row_holds)) ∙ is.states

  low : (q : ℕ) → q < length rules → q < length (n.text ∷ is.others)
  low q h = subst (λ n. q < n) many h

  first : 0 < length (n.text ∷ is.others)
  first = omega arith

  languages : AreLanguagesReached items n type rules
  languages q h = (
    name_of (get_or (n.text ∷ is.others) q []),
    is.reached q [] (low q h),
    ((is.languages q [] (low q h)).kind, (is.languages q [] (low q h)).type ∙ on),
    λ t has. (let both = is.means q (low q h) t (typed t has) in (both.1, both.0)),
  )

  language_for : IsLanguageFor items n type (record { rules = rules; start = 0 })
  language_for = record {
    is_on = ((is.languages 0 [] first).kind, on);
    in_range = subst (λ n. 0 < n) (sym many) first;
    means = λ t has. (let both = is.means 0 first t (typed t has) in (both.1, both.0));
    states = languages;
  }

  reached_type : (other : List ℕ) → Reaches items n.text other → type_of items (named (name_of other)) ≡ Some type
  reached_type other reached =
      let (k, within, at) = is.all other reached in
      let there : type_of items (named (name_of (get_or (n.text ∷ is.others) k other))) ≡ type_of items (named n) = (is.languages k other within).type in
      ap (λ o. type_of items (named (name_of o))) (sym at) ∙ there ∙ on

  written : (f : Formula RowAtom) → IsGuardReached items n.text f → IsWrittenGuard items n type (λ l. formula_holds (λ a. row_holds a l) f)
  written f (other, reached, r, at, guard) = by r.guard refl guard
    where
      sorted : (l : Label) → IsLabelOf items type l → HasSorts (sorts_of (input_of items n.text)) l
      sorted l has = subst (λ s. HasSorts (sorts_of s) l) type_is has

      by : (g : Option Expr) → r.guard ≡ g → IsGuardFor (input_of items n.text).fields g f → IsWrittenGuard items n type (λ l. formula_holds (λ a. row_holds a l) f)
      by None e own = inl (λ l has. guard_means (input_of items n.text).fields None f l own (sorted l has))
      by (Some x) e own = inr (
        x,
        of_language n (name_of other) type r x reached (reached_type other reached) at e,
        λ l has. guard_means (input_of items n.text).fields (Some x) f l own (sorted l has) ∙ ap (λ s. is_true s.fields (values_of l) x) (sym type_is),
      )

  guards : AreWrittenGuards items n type rules
  guards q r at = of_each (λ r. IsWrittenGuard items n type r.guard) m.rules (λ k d within i e inside. written _ (is.guards k d within i e inside)) q r at

  pub is_built_for : IsBuiltFor items n type m 0
  is_built_for = record {
    carries = (names_are_carried items n).language type (record { rules = rules; start = 0 }) language_for;
    seen = (names_are_seen items n).language type rules guards;
  }
