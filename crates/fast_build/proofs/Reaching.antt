-- A language that is reached is declared, and has trees of the same type.
use Rattle.std.proofs.Common.{◌≡◌, ℕ, length, arith, true, false, List, [], Option, Some, None, Contains, refl, sym, ap, subst, ◌∙◌}
use Rattle.std.specs.Option.{option_map_or}
use Rattle.model_program.specs.Syntax.{Demand}
use Rattle.model_grammar.specs.Syntax.{Rule, LangItem, Item}
use Rattle.model_names.specs.Declared.{same_text, rules_of}
use Rattle.model_meaning.specs.Types.{signature_at, input_of}
use Rattle.model_meaning.specs.Reached.{Reaches, itself, by_demand, by_lookahead, by_call}
use Rattle.fast_build.specs.Items.{find_lang}
use Rattle.fast_build.proofs.Stands.{demand_stands, rule_stands, AllStand}
use Rattle.fast_build.proofs.Standing.{demands_there, rules_are, no_out_rules, type_is, same_type}
use Rattle.model_meaning.proofs.Rules.{each_passes}
use Rattle.fast_build.proofs.Naming.{same_from_test}

-- the name is that of a language with trees of this type
pub record IsOf (items : List Item) (of name : List ℕ) : Type 0 where
  pub lang : LangItem
  pub found : find_lang items name ≡ Some lang
  pub of_is : lang.of.text ≡ of

by_name : (of : List ℕ) (found : Option LangItem) → option_map_or (λ l. same_text l.of.text of) found false ≡ true → (l : LangItem) × (found ≡ Some l) × (l.of.text ≡ of)
by_name of None e = absurd (cc)
by_name of (Some l) e = (l, refl, same_from_test l.of.text of e)

demanded : (items : List Item) (of other : List ℕ) (r : Rule) (d : Demand) → AllStand items → IsOf items of other → Contains (rules_of items other) r → Contains r.given d → IsOf items of d.language.text
demanded items of other r d stand at among named =
    let l = stand other at.lang at.found in
    let r_stands = each_passes (rule_stands items at.lang.of (signature_at items at.lang.of)) at.lang.rules r l.rules (subst (λ rs. Contains rs r) (rules_are items other at.lang at.found) among) in
    let d_stands = each_passes (demand_stands items at.lang.of) r.given d (demands_there items at.lang.of (signature_at items at.lang.of) r r_stands) named in
    let k = by_name at.lang.of.text (find_lang items d.language.text) d_stands in
    record { lang = k.0; found = k.1; of_is = k.2 ∙ at.of_is }

-- nothing is in no list
none_contained : {A : Type 0} (xs : List A) (x : A) → xs ≡ [] → Contains xs x → ⊥
none_contained xs x e (k, low, is) = omega (arith, low, ap length e)

pub reached_of : (items : List Item) (of name other : List ℕ) → AllStand items → IsOf items of name → Reaches items name other → IsOf items of other
reached_of items of name _ stand at itself = at
reached_of items of name _ stand at (by_demand before r d reached among named) = demanded items of before r d stand (reached_of items of name before stand at reached) among named
reached_of items of name _ stand at (by_lookahead before r d reached among named) = let b = reached_of items of name before stand at reached in absurd (none_contained _ r (no_out_rules items before b.lang b.found) among)
reached_of items of name _ stand at (by_call before r q reached among called) = let b = reached_of items of name before stand at reached in absurd (none_contained _ r (no_out_rules items before b.lang b.found) among)

pub reached_type : (items : List Item) (of name other : List ℕ) → AllStand items → IsOf items of name → Reaches items name other → input_of items other ≡ input_of items name
reached_type items of name other stand at reached =
    let there = reached_of items of name other stand at reached in
    type_is items other there.lang there.found ∙ same_type items there.lang.of at.lang.of (there.of_is ∙ sym at.of_is) ∙ sym (type_is items name at.lang at.found)
