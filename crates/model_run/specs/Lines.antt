-- The lines of refusals, of counts and of trees that are given.
use Rattle.std.specs.Prelude.{ℕ, suc, List, [], ◌++◌, true, false, length, codes, decimal, encode_utf8_all}
use Rattle.std.specs.List.{flat_map}
use Rattle.std.specs.Fmt.{signed_decimal}
use Rattle.fast_fault.specs.declared.place.Pos.{Pos}
use Rattle.fast_fault.specs.declared.code.Code.{Code}
use Rattle.fast_fault.specs.declared.code.Code.TheVariants.{Classes, Width, FormRange, LabelRange, NotComposable, EmptyLanguage, OutputCount, Outputs, TreeSize}
use Rattle.fast_fault.specs.Codes.{number_of, name_of}
use Rattle.model_tree.specs.Tree.{LabelTree}
use Rattle.model_tree.specs.Signature.{PlainSignature}
use Rattle.model_grammar.specs.Syntax.{Item}
use Rattle.model_run.specs.Loads.{load_shown}
use Rattle.model_run.specs.Causes.{Stop, more_classes, too_wide, form_number, label_number, not_composable, empty_language, no_output, two_outputs, too_much, too_large}
use Rattle.model_run.specs.Outcomes.{Outcome, shown_tree, verdicts}

-- `refused CODE NAME at`
abbrev pub refused_at : Code → List ℕ
refused_at code = codes "refused " ++ (decimal (number_of code) ++ (codes " " ++ (name_of code ++ codes " at ")))

-- `refused CODE NAME at FILE:LINE:COLUMN`, and what is shown behind it
abbrev pub refusal_showing : List ℕ → Code → List ℕ → Pos → List ℕ
refusal_showing shown code file place = refused_at code ++ (file ++ (codes ":" ++ (decimal place.line ++ (codes ":" ++ (decimal place.column ++ (shown ++ codes "\n"))))))

-- of a text
abbrev pub refusal_line : Code → List ℕ → Pos → List ℕ
refusal_line = refusal_showing []

-- of a name in the command line
abbrev pub name_line : Code → List ℕ
name_line code = refused_at code ++ codes "word 3\n"

abbrev pub stop_code : Stop → Code
stop_code (more_classes limit) = Classes
stop_code (too_wide width) = Width
stop_code (form_number n) = FormRange
stop_code (label_number n) = LabelRange
stop_code (not_composable c) = NotComposable
stop_code empty_language = EmptyLanguage
stop_code (no_output signature t) = OutputCount
stop_code (two_outputs signature t into u w) = OutputCount
stop_code (too_much load) = Outputs
stop_code too_large = TreeSize

-- What the line of a refusal shows behind the place: the limit; 64 or 128; a number; a tree, a transformation and two rules of
-- it, and another one and a rule; 0 and an input, or 2, an input and two outputs; `outputs`, `nodes` or `depth`. Rules are
-- shown by numbers from 1.
abbrev pub stop_shows : Stop → List ℕ
stop_shows (more_classes limit) = codes " " ++ decimal limit
stop_shows (too_wide width) = codes " " ++ decimal width
stop_shows (form_number n) = codes " " ++ signed_decimal n
stop_shows (label_number n) = codes " " ++ signed_decimal n
stop_shows (not_composable c) =
    shown_tree c.signature c.tree
    ++ (codes " " ++ (encode_utf8_all c.name ++ (codes " " ++ (decimal (suc c.first) ++ (codes " " ++ (decimal (suc c.second)
    ++ (codes " " ++ (encode_utf8_all c.copier ++ (codes " " ++ decimal (suc c.copying))))))))))
stop_shows empty_language = []
stop_shows (no_output signature t) = codes " 0" ++ shown_tree signature t
stop_shows (two_outputs signature t into u w) = codes " 2" ++ (shown_tree signature t ++ (shown_tree into u ++ shown_tree into w))
stop_shows (too_much load) = codes " " ++ load_shown load
stop_shows too_large = []

-- of an item, or of a tree that is given
abbrev pub stop_line : Stop → List ℕ → Pos → List ℕ
stop_line stop = refusal_showing (stop_shows stop) (stop_code stop)

-- `checked N items`
abbrev pub checked_line : List Item → List ℕ
checked_line items = codes "checked " ++ (decimal (length items) ++ codes " items\n")

-- `input K outputs N`, and for each output `output TREE`
abbrev pub outputs_lines : PlainSignature → ℕ → List LabelTree → List ℕ
outputs_lines signature k us =
    codes "input " ++ (decimal k ++ (codes " outputs " ++ (decimal (length us) ++ (codes "\n" ++ flat_map (λ u. codes "output" ++ (shown_tree signature u ++ codes "\n")) us))))

-- `input K yes` and `input K no`
abbrev pub inside_line : ℕ → List ℕ
inside_line k = codes "input " ++ (decimal k ++ codes " yes\n")

abbrev pub outside_line : ℕ → List ℕ
outside_line k = codes "input " ++ (decimal k ++ codes " no\n")

-- `self N: items I, passed P, failed F`
abbrev pub self_line : ℕ → List Item → List Outcome → List ℕ
self_line n items outcomes =
    codes "self " ++ (decimal n ++ (codes ": items " ++ (decimal (length items)
    ++ (codes ", passed " ++ (decimal (verdicts true outcomes) ++ (codes ", failed " ++ (decimal (verdicts false outcomes) ++ codes "\n")))))))
