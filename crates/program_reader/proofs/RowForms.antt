-- Of what labels are made.
use Rattle.std.proofs.Common.{◌≡◌, List, [], ◌∷◌, ◌++◌, refl, sym, ap, ◌∙◌, subst, append_assoc, inl, inr, arith}
use Rattle.model_program.specs.declared.Word.{Word}
use Rattle.model_program.specs.declared.Word.TheVariants.{And, Or, Equal, NotEqual, AtMost, AtLeast, Less, Greater, Plus, Minus, Star, Percent, Id, Comma, SquareOpen, SquareClose}
use Rattle.model_program.specs.Lexeme.{Lexeme}
use Rattle.model_program.specs.Joined.{◌⌢◌, IsOther}
use Rattle.read_forms.specs.Reads.{Stops, StartsIn, closed}
use Rattle.model_program.specs.Grammar.{sign, Many}
use Rattle.read_forms.specs.Parts.{Ends, HasSample, other_than}
use Rattle.read_forms.proofs.Forms.{sample_as, sample_pair, starts_joined, starts_append, starts_wider, stops_of}
use Rattle.read_forms.proofs.Words.{sign_starts, sample_sign, sample_token}
use Rattle.model_grammar.specs.declared.Level.TheVariants.{E}
use Rattle.model_grammar.specs.Syntax.{Expr, field}
use Rattle.model_grammar.specs.Expressions.{IsE, field_name}
use Rattle.model_grammar.proofs.Levels.{primary}
use Rattle.model_grammar.specs.Terms.{IsLater, AreLabels}
use Rattle.label_reader.specs.Levels.{strength, reach, GoesOn, BeginsAt}
use Rattle.label_reader.specs.Lists.{Without, closing_of, IsItem}
use Rattle.label_reader.proofs.LevelForms.{level_begins}
use Rattle.read_forms.proofs.Lists.{skip_nothing, to_right}
use Rattle.label_reader.specs.declared.lists.Between.TheVariants as gap
use Rattle.label_reader.proofs.Listed.{sample_any_to}

-- what begins an expression but for `-` is no sign between operands
begins_no_sign : (w : Word) → BeginsAt E w → (w ≡ Minus → ⊥) → strength w ≡ 0
begins_no_sign Or begins other = absurd (omega arith)
begins_no_sign And begins other = absurd (omega arith)
begins_no_sign Equal begins other = absurd (omega arith)
begins_no_sign NotEqual begins other = absurd (omega arith)
begins_no_sign Less begins other = absurd (omega arith)
begins_no_sign AtMost begins other = absurd (omega arith)
begins_no_sign Greater begins other = absurd (omega arith)
begins_no_sign AtLeast begins other = absurd (omega arith)
begins_no_sign Plus begins other = absurd (omega arith)
begins_no_sign Minus begins other = absurd (other refl)
begins_no_sign Star begins other = absurd (omega arith)
begins_no_sign Percent begins other = absurd (omega arith)
begins_no_sign w begins other = refl

no_reach : (v w : Word) → reach v ≡ 0 → BeginsAt E w → w ≡ v → ⊥
no_reach v w none begins is = let e : reach w ≡ 0 = ap reach is ∙ none in omega arith

ends_label : Ends (GoesOn E) (closing_of (IsLater IsE) SquareClose) closed
ends_label v other after spelled stops = by v.0 other after spelled
  where
    no_sign : (v w : Word) → strength v ≡ 0 → w ≡ v → GoesOn E w → ⊥
    no_sign v w none is goes = let e : strength w ≡ 0 = ap strength is ∙ none in omega arith

    first : (ts after : List Lexeme) → StartsIn (BeginsAt E) ts → IsOther Minus ts → Stops (GoesOn E) (ts ++ after)
    first [] after starts is_other = absurd starts
    first (t ∷ ts) after starts is_other = λ goes. let e = begins_no_sign t.word starts is_other in omega arith

    item : (x : Expr) (ts after : List Lexeme) → IsLater IsE x ts → Stops (GoesOn E) (ts ++ after)
    item x ts after (inl joined) = stops_of (λ w. w ≡ Comma) (GoesOn E) (ts ++ after) (λ w is goes. no_sign Comma w refl is goes) (starts_append (λ w. w ≡ Comma) ts after (starts_joined (λ w. w ≡ Comma) _ _ ts ((sign_starts Comma).starts tt) joined))
    item x ts after (inr alone) = first ts after ((level_begins E).starts x ts alone.0) alone.1

    by : (xs : List Expr) (other after : List Lexeme) → (Many (IsLater IsE) xs ⌢ sign SquareClose) other → Stops (GoesOn E) (other ++ after)
    by [] other after joined = stops_of (λ w. w ≡ SquareClose) (GoesOn E) (other ++ after) (λ w is goes. no_sign SquareClose w refl is goes) (starts_append (λ w. w ≡ SquareClose) other after ((sign_starts SquareClose).starts tt other (skip_nothing (sign SquareClose) other joined)))
    by (x ∷ xs) other after joined =
        let all = to_right (IsLater IsE x) (Many (IsLater IsE) xs) (sign SquareClose) other joined in
        subst (λ (l : List Lexeme). Stops (GoesOn E) (l ++ after)) (sym all.split) (subst (λ (l : List Lexeme). Stops (GoesOn E) l) (sym (append_assoc all.front all.back after)) (item x all.front (all.back ++ after) all.at_front))

sample_alone : HasSample (Without Minus IsE)
sample_alone = record { value = field (record { line = 1; column = 1 }) []; tokens = sample_token Id ∷ []; spelled = (primary E _ _ (field_name (sample_token Id) refl), λ e. cc) }

pub label_item : IsItem gap.LabelComma SquareClose IsE (GoesOn E)
label_item = record {
  alone = sample_alone;
  no_comma = record { starts = λ e ts is. starts_wider (BeginsAt E) (other_than Comma) ts (λ w begins is. no_reach Comma w refl begins is) ((level_begins E).starts e ts is) };
  no_close = record { starts = λ e ts is. starts_wider (BeginsAt E) (other_than SquareClose) ts (λ w begins is. no_reach SquareClose w refl begins is) ((level_begins E).starts e ts is) };
  closes = (λ h. cc, λ h. cc);
  ends = ends_label;
}

pub sample_labels : HasSample AreLabels
sample_labels = sample_as (λ (v : Unit {0} × List Expr). v.1) (λ v ts spelled. spelled) (sample_pair (sample_sign SquareOpen) (sample_any_to gap.LabelComma IsE SquareClose))
