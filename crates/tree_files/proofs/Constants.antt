-- Constants, by what they are.
use Rattle.std.proofs.Common.{◌≡◌, Bool, true, false, ◌&&◌, List, [], ◌∷◌, ◌++◌, map, Option, Some, None, refl, sym, ap, ap₂, ◌∙◌}
use Rattle.std.specs.Prelude.{not}
use Rattle.std.specs.List.{list_all}
use Rattle.fast_fault.specs.declared.code.Code.TheVariants.{WrongSort, NumberRange, TooMany}
use Rattle.fast_fault.specs.declared.place.Pos.{Pos}
use Rattle.fast_fault.specs.declared.refusal.Refusal.{Refusal}
use Rattle.model_tree.specs.Kept.{is_kept_field}
use Rattle.model_tree.specs.Signature.{PlainField}
use Rattle.model_label.specs.Meaning.{value_of}
use Rattle.model_checks.specs.Failures.{fails_if, first_among}
use Rattle.model_run.specs.Texts.{sort_failures, range_failures, length_failures, label_failures}
use Rattle.tree_reader.specs.declared.Constant.{Constant}
use Rattle.tree_reader.specs.declared.Value.{Value}
use Rattle.tree_reader.specs.declared.Value.TheVariants.{Number, Text, Truth}
use Rattle.tree_reader.specs.Plain.{plain_value, plain_constant}
use Rattle.tree_files.specs.Labels.{meant_by, is_long, is_misplaced, failures_at}
use Rattle.tree_files.proofs.Failing.{then, none_before, none_behind, passed}

-- ---- what fails in a label

at : (o : Option PlainField) (v : Value) (p : Pos)
    → failures_at o (plain_value v p) ≡ fails_if (is_misplaced o (meant_by v)) WrongSort p ++ (fails_if (not (is_kept_field (meant_by v))) NumberRange p ++ fails_if (is_long (meant_by v)) TooMany p)
at None (Number n) p = refl
at None (Text t) p = refl
at None (Truth b) p = refl
at (Some f) (Number n) p = refl
at (Some f) (Text t) p = refl
at (Some f) (Truth b) p = refl

pub label_noted : (o : Option PlainField) (c : Constant) (known sorted ranged last : Option Refusal)
    → sorted ≡ first_among known (fails_if (is_misplaced o (meant_by c.value)) WrongSort c.place)
    → ranged ≡ first_among sorted (fails_if (not (is_kept_field (meant_by c.value))) NumberRange c.place)
    → last ≡ first_among ranged (fails_if (is_long (meant_by c.value)) TooMany c.place)
    → last ≡ first_among known (failures_at o (plain_constant c))
label_noted o c known sorted ranged last one two three =
    let misplaced = fails_if (is_misplaced o (meant_by c.value)) WrongSort c.place in
    let outside = fails_if (not (is_kept_field (meant_by c.value))) NumberRange c.place in
    let long = fails_if (is_long (meant_by c.value)) TooMany c.place in
    then known sorted last misplaced (outside ++ long) one (then sorted ranged last outside long two three) ∙ ap (first_among known) (sym (at o c.value c.place))

-- ---- what they are worth

pub value_is : (v : Value) (p : Pos) → value_of [] [] (plain_value v p) ≡ meant_by v
value_is (Number n) p = refl
value_is (Text t) p = refl
value_is (Truth b) p = refl

pub values_are : (cs : List Constant) → map (value_of [] []) (map plain_constant cs) ≡ map (λ (c : Constant). meant_by c.value) cs
values_are [] = refl
values_are (c ∷ cs) = ap₂ (λ v vs. v ∷ vs) (value_is c.value c.place) (values_are cs)

-- ---- ranges

not_false : (b : Bool) → not b ≡ false → b ≡ true
not_false true e = refl
not_false false e = cc

kept_value : (v : Value) (p : Pos) → range_failures (plain_value v p) ≡ [] → is_kept_field (meant_by v) ≡ true
kept_value (Number n) p e = not_false _ (passed _ NumberRange p e)
kept_value (Text t) p e = refl
kept_value (Truth b) p e = refl

pub all_kept : (fields : List PlainField) (cs : List Constant) → label_failures fields (map plain_constant cs) ≡ [] → list_all (λ c. is_kept_field (meant_by c.value)) cs ≡ true
all_kept fields [] e = refl
all_kept [] (c ∷ cs) e =
    let behind = none_behind (range_failures (plain_constant c)) _ e in
    ap₂ (λ a b. a && b) (kept_value c.value c.place (none_before (range_failures (plain_constant c)) _ e)) (all_kept [] cs (none_behind (length_failures (plain_constant c)) _ behind))
all_kept (f ∷ fields) (c ∷ cs) e =
    let sorted = none_behind (sort_failures f (plain_constant c)) _ e in
    let behind = none_behind (range_failures (plain_constant c)) _ sorted in
    ap₂ (λ a b. a && b) (kept_value c.value c.place (none_before (range_failures (plain_constant c)) _ sorted)) (all_kept fields cs (none_behind (length_failures (plain_constant c)) _ behind))
