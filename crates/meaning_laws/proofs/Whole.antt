-- What the meaning of a well-formed program has.
use Rattle.model_checks.proofs.SoundWhole.{sound}
use Rattle.model_meaning.proofs.Laws.{are_operations}
use Rattle.model_meaning.proofs.Rules.{by_rules, tests_agree}
use Rattle.model_meaning.proofs.Typed.{output_typed, related_typed}
use Rattle.meaning_laws.specs.Laws.{ProgramsHaveMeaning}
use Rattle.meaning_laws.proofs.Reaching.{lang_undefined, trans_undefined, demand_languages}
use Rattle.meaning_laws.proofs.Valued.{has_declared}
use Rattle.meaning_laws.proofs.Deep.{stands_for}
use Rattle.meaning_laws.proofs.Fitting.{fits, rules_typed}

pub has_meaning : ProgramsHaveMeaning
has_meaning items well =
    let whole = sound items well in
    let rules = rules_typed items whole in
    record {
      by_rules = by_rules items;
      languages = lang_undefined items whole;
      transformations = trans_undefined items whole;
      by_expression = λ n x e. (stands_for items whole n x e, has_declared items whole n x e);
      operations = are_operations items;
      outputs = record { rules = rules; fits = fits items whole; of_names = output_typed items rules; of_expressions = related_typed items rules };
      demands = demand_languages items whole;
      tests = tests_agree items (demand_languages items whole);
    }
