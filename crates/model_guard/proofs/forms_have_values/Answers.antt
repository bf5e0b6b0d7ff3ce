use Rattle.model_guard.proofs.Values.{form_value, whole_sort, guard_sort}
use Rattle.model_guard.proofs.forms_have_values.Goals as goal

pub returns-clause-value : goal.returns-clause-value
returns-clause-value c fields values e few sorts h = form_value fields values few sorts e h

pub returns-clause-sort : goal.returns-clause-sort
returns-clause-sort c = whole_sort

pub returns-clause-guard : goal.returns-clause-guard
returns-clause-guard c = guard_sort
