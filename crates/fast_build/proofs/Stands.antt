-- What is so of the languages of a well-formed program, as far as their automata need it.
use Rattle.std.proofs.Common.{◌≡◌, ℕ, ◌≤◌, ◌==◌, Bool, true, false, ◌&&◌, List, [], ◌∷◌, Some, length, All}
use Rattle.std.specs.Prelude.{not}
use Rattle.std.specs.List.{list_any, list_all}
use Rattle.std.specs.Option.{option_map_or}
use Rattle.model_tree.specs.Limits.{most_fields}
use Rattle.model_tree.specs.Signature.{PlainSignature, names_of}
use Rattle.model_program.specs.Syntax.{Name, Demand, TypeItem}
use Rattle.model_grammar.specs.Syntax.{Rule, LangItem, Item}
use Rattle.model_names.specs.Declared.{same_text, find_type}
use Rattle.model_meaning.specs.Types.{signature_at}
use Rattle.fast_build.specs.Items.{find_lang}
use Rattle.fast_build.specs.Numbers.{find_constructor}
use Rattle.fast_build.specs.Stands.{GuardStands}

-- no two of the names are the same
abbrev pub are_apart : List (List ℕ) → Bool
are_apart [] = true
are_apart (n ∷ ns) = not (list_any (same_text n) ns) && are_apart ns

-- a rule has as many variables as its constructor has children
abbrev pub has_rank : PlainSignature → Rule → Bool
has_rank t r = option_map_or (λ c. c.rank == length r.vars) (find_constructor t.constructors r.ctor.text) false

-- a demand is of a language of the same type
abbrev pub demand_stands : List Item → Name → Demand → Bool
demand_stands items of d = option_map_or (λ l. same_text l.of.text of.text) (find_lang items d.language.text) false

abbrev pub rule_stands : List Item → Name → PlainSignature → Rule → Bool
rule_stands items of t r = has_rank t r && list_all (demand_stands items of) r.given

-- The language's type is declared, its constructors have different names, and each rule is one of that type.
pub record LangStands (items : List Item) (l : LangItem) : Type 0 where
  pub type : TypeItem
  pub found : find_type items l.of.text ≡ Some type
  pub apart : are_apart (names_of (signature_at items l.of)) ≡ true
  pub few : length (signature_at items l.of).fields ≤ most_fields
  pub rules : list_all (rule_stands items l.of (signature_at items l.of)) l.rules ≡ true
  pub guards : All (λ r. GuardStands (signature_at items l.of).fields r.guard) l.rules

abbrev pub AllStand : List Item → Type 0
AllStand items = (name : List ℕ) (l : LangItem) → find_lang items name ≡ Some l → LangStands items l
