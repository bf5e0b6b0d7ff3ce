use Rattle.std.proofs.Common.{sym, ap, ◌∙◌, arith, refl, false, ◌∷◌, []}
use Rattle.model_program.specs.declared.Word.TheVariants.{Not, Minus, Percent, RoundClose}
use Rattle.read_forms.proofs.Forms.{as_read, as_fails, then_read, then_fails, first_fails, ends_closed, closed_read, closed_fails, read_at, chained_read, chained_fails, chained_first_fails}
use Rattle.read_forms.proofs.Words.{word_read, next_of, sample_sign}
use Rattle.model_grammar.specs.declared.Level.TheVariants.{Unary, Prim}
use Rattle.model_grammar.specs.declared.Chain.TheVariants.{Product}
use Rattle.model_grammar.specs.Operators.{is_marking}
use Rattle.model_grammar.specs.Syntax.{number, minus, chain, compare, part, no_parts}
use Rattle.model_grammar.specs.Printed.{rank}
use Rattle.fast_syntax.specs.Plain.{plain_expr}
use Rattle.label_reader.specs.Levels.{GoesOn, BeginsAt}
use Rattle.label_reader.specs.Operands.{marked, mark_in, parts_from}
use Rattle.label_reader.proofs.Digits.{negated_number_is}
use Rattle.label_reader.proofs.ByToken.{numeral_of, numeral_fails}
use Rattle.label_reader.proofs.Exits.{stepped, exit, reads_as, reads_wider, shorter, not_longer, taken, next_taken, sign_next}
use Rattle.label_reader.proofs.Keeping.{told_read, reads_whole, reads_kept, reads_closed, reads_to_close, told_kept, passes_kept, made_of_kept, made_reads, made_fails}
use Rattle.label_reader.proofs.Joins.{without_read, without_fails}
use Rattle.label_reader.proofs.LevelForms.{tighter, level_begins, sample_prim, wider_read, wider_fails, first_operand_fails, one_operand, chain_fails, negated_makes, not_negated_makes, cmp_in_neg, left_fails, left_alone, right_fails, both_read, rel_read}
use Rattle.label_reader.proofs.Gathered.{chaining_starts, chaining_more, chaining_ends, operand_fails, operand_read}
use Rattle.label_reader.proofs.Primaries.{minus_makes, no_minus_makes, negated_number, negated_other, sample_without, closed_by}
use Rattle.label_reader.proofs.Insides.{further_fails, two_makes, many_makes, many_read, sample_behind_first, percent_makes, rel_makes, nested_makes, ends_e, minus_whole_fails, minus_further_fails, minus_further_read, minus_close_fails, minus_close_read, in_brackets}
use Rattle.label_reader.proofs.Found.{told_found, not_minus, minus_operator, not_compared, not_subtracted}
use Rattle.label_reader.proofs.Further.{further_begins, further_goes_on, further_next_fails, further_ends}
use Rattle.label_reader.proofs.levels.+expression.Goals as goal

-- Chains.

pub read_chain-returns-in_err-first : goal.read_chain-returns-in_err-first
read_chain-returns-in_err-first t c = exit _ _ _ _ c.from_residual.result c.from_residual.ensures.1 (first_operand_fails _ _ _ (operand_fails _ _ _ _ c.operand.ensures c.in_err-first.ensures))

pub read_chain-returns-in_default : goal.read_chain-returns-in_default
read_chain-returns-in_default t c = one_operand _ _ _ _ (operand_read _ _ c.operand.ensures c.in_ok-first.ensures) c.in_default.ensures

pub read_chain-returns-in_err-parts : goal.read_chain-returns-in_err-parts
read_chain-returns-in_err-parts t c = exit _ _ _ _ c.from_residual-in_err-parts.result c.from_residual-in_err-parts.ensures.1 (made_fails _ _ _ plain_expr _ _ c.in_ok-first.ensures c.in_err-parts.ensures (λ bad fails. first_operand_fails _ _ _ (operand_fails _ _ _ _ c.operand.ensures fails)))

pub read_chain-parts-init : goal.read_chain-parts-init
read_chain-parts-init t c = let e = c.in_ok-parts.ensures in let o = c.in-Some.ensures in (
  record {
    sign = o.token;
    is_at = o.is_at;
    is_sign = o.sign;
    so_far = chaining_starts _ _ _ _ _ _ _ _ _ c.new.ensures.kind c.new.ensures.none e.2.1 (operand_read _ _ c.operand.ensures (told_read _ _ plain_expr e.1 c.in_ok-first.ensures)) o.here;
  },
  e.2.0 ∙ c.new.ensures.kind,
)

pub read_chain-returns-in_err-parts-2 : goal.read_chain-returns-in_err-parts-2
read_chain-returns-in_err-parts-2 t c = let o = c.in-Some-sign_next.ensures in let e = stepped _ (o.here, o.sign) c.advance.ensures in
    exit _ _ _ _ c.from_residual-in_err-parts-2.result c.from_residual-in_err-parts-2.ensures.1 (made_fails _ _ _ plain_expr _ _ c.read_level-in-Some-sign_next.ensures c.in_err-parts-2.ensures
    (λ bad fails. chain_fails _ _ _ _ _ _ _ c.parts.invariant.0.so_far.part_way e.0 e.1 (operand_fails _ _ _ _ c.operand-in-Some-sign_next.ensures fails)))

pub read_chain-parts-smaller : goal.read_chain-parts-smaller
read_chain-parts-smaller t c = let o = c.in-Some-sign_next.ensures in let a = taken _ _ _ (stepped _ (o.here, o.sign) c.advance.ensures).0 in let b = not_longer _ _ (told_read _ _ _ c.in_ok-parts-2.ensures.1 c.read_level-in-Some-sign_next.ensures) in omega (arith, a, b)

pub read_chain-parts-preserved : goal.read_chain-parts-preserved
read_chain-parts-preserved t c = let o = c.in-Some-sign_next.ensures in let e = stepped _ (o.here, o.sign) c.advance.ensures in let k = c.in_ok-parts-2.ensures in let so_far = c.parts.invariant.0 in (
  record {
    sign = so_far.sign;
    is_at = so_far.is_at;
    is_sign = so_far.is_sign;
    so_far = chaining_more _ _ _ _ _ _ _ _ _ _ so_far.so_far e.0 e.1 (operand_read _ _ c.operand-in-Some-sign_next.ensures (told_read _ _ plain_expr k.1 c.read_level-in-Some-sign_next.ensures)) _ c.parts.invariant.1 _ o.marks k.2.1;
  },
  k.2.0 ∙ c.parts.invariant.1,
)

pub read_chain-returns : goal.read_chain-returns
read_chain-returns t c =
    let place = c.in-Some.place in let so_far = c.parts.invariant.0 in
    chaining_ends _ _ _ _ _ _ so_far.so_far so_far.is_sign c.in_default-sign_next.ensures
    (c.into_node-node.ensures place ∙ ap (λ k. chain k place (parts_from (marked c.parts.parts))) c.parts.invariant.1 ∙ ap (λ p. chain c.args.kind p (parts_from (marked c.parts.parts))) so_far.is_at)

-- Negations.

pub read_negation-returns-in_default : goal.read_negation-returns-in_default
read_negation-returns-in_default t c = reads_as _ _ _ _ (not_negated_makes _ c.in_default.ensures) (reads_wider _ _ _ _ _ _ _ cmp_in_neg c.read_level.ensures)

pub read_negation-returns : goal.read_negation-returns
read_negation-returns t c = let e = stepped _ c.in-Some.ensures c.advance.ensures in let makes = negated_makes _ (next_of Not _ _ _ e.0 e.1) in
    made_reads _ _ _ plain_expr plain_expr _ _ _ c.read_level-2.ensures c.prefixed.ensures
    (λ x y is read. read_at (sym is) (as_read makes (then_read (ends_closed _ _) (word_read Not _ _ _ e.0 e.1) (wider_read cmp_in_neg read))))
    (λ bad fails. as_fails _ makes (then_fails _ (ends_closed _ _) (word_read Not _ _ _ e.0 e.1) (wider_fails _ cmp_in_neg fails)))

-- Comparisons.

pub read_comparison-returns-in_err-left : goal.read_comparison-returns-in_err-left
read_comparison-returns-in_err-left t c = exit _ _ _ _ c.from_residual.result c.from_residual.ensures.1 (left_fails _ _ c.in_err-left.ensures)

pub read_comparison-returns-in_default : goal.read_comparison-returns-in_default
read_comparison-returns-in_default t c = left_alone _ _ _ c.in_ok-left.ensures (not_compared _ _ _ c.in_default.not-Compare c.operator_next.ensures)

pub read_comparison-returns : goal.read_comparison-returns
read_comparison-returns t c = let o = told_found _ _ _ c.in-Compare.is c.operator_next.ensures in let e = stepped _ (o.here, o.is.0) c.advance.ensures in
    made_reads _ _ _ plain_expr plain_expr _ _ _ c.read_level-2.ensures (made_of_kept _ _ _ _ _ c.kept-both.ensures c.compared.ensures)
    (λ x y is read. read_at (ap (λ p. compare p c.in-Compare.rel (plain_expr c.in_ok-left.left) (plain_expr x)) (sym o.is.1) ∙ sym is) (both_read _ _ _ _ _ _ _ _ c.in_ok-left.ensures e.0 e.1 read))
    (λ bad fails. right_fails _ _ _ _ _ _ _ c.in_ok-left.ensures e.0 e.1 fails)

-- Minus.

pub read_unary-returns-in_default : goal.read_unary-returns-in_default
read_unary-returns-in_default t c = reads_as _ _ _ _ (no_minus_makes _ (not_subtracted _ _ _ c.in_default.not-Minus c.operator_next.ensures)) (reads_wider _ _ _ _ _ _ _ (closed_by (GoesOn Unary)) c.read_primary.ensures)

pub read_unary-returns-in_err-number : goal.read_unary-returns-in_err-number
read_unary-returns-in_err-number t c = let o = told_found _ _ _ c.in-Minus.is c.operator_next.ensures in let e = stepped _ (o.here, o.is.0) c.advance.ensures in
    exit _ _ _ _ c.from_residual.result c.from_residual.ensures.1 (as_fails _ (minus_makes _ (next_of Minus _ _ _ e.0 e.1)) (then_fails _ (ends_closed _ _) (word_read Minus _ _ _ e.0 e.1) (as_fails _ (negated_number _ _ (c.is_next.ensures.yes c.if-is_next.true)) (closed_fails _ (numeral_fails _ c.in_err-number.ensures)))))

pub read_unary-returns-then-is_next : goal.read_unary-returns-then-is_next
read_unary-returns-then-is_next t c = let o = told_found _ _ _ c.in-Minus.is c.operator_next.ensures in let e = stepped _ (o.here, o.is.0) c.advance.ensures in let of = numeral_of c.in_ok-number.ensures in
    let at = sym o.is.1 in let negated = sym (negated_number_is _ _ of.3 of.2.spelled.1) in
    read_at (λ i. number (at i) (negated i))
    (as_read (minus_makes _ (next_of Minus _ _ _ e.0 e.1)) (then_read (ends_closed _ _) (word_read Minus _ _ _ e.0 e.1) (as_read (negated_number _ _ (c.is_next.ensures.yes c.if-is_next.true)) (closed_read of.2))))

pub read_unary-returns : goal.read_unary-returns
read_unary-returns t c = let o = told_found _ _ _ c.in-Minus.is c.operator_next.ensures in let e = stepped _ (o.here, o.is.0) c.advance.ensures in let other = c.is_next.ensures.no c.if-is_next.false in let makes = minus_makes _ (next_of Minus _ _ _ e.0 e.1) in
    made_reads _ _ _ plain_expr plain_expr _ _ _ c.read_primary-2.ensures c.prefixed.ensures
    (λ x y is read. read_at (ap (λ p. minus p (plain_expr x)) (sym o.is.1) ∙ sym is) (as_read makes (then_read (ends_closed _ _) (word_read Minus _ _ _ e.0 e.1) (as_read (negated_other _ _ other) (without_read _ other (closed_read read))))))
    (λ bad fails. as_fails _ makes (then_fails _ (ends_closed _ _) (word_read Minus _ _ _ e.0 e.1) (as_fails _ (negated_other _ _ other) (without_fails _ _ sample_without other (closed_fails _ fails)))))

-- Parentheses.

pub read_two-returns-in_err-left : goal.read_two-returns-in_err-left
read_two-returns-in_err-left t c = exit _ _ _ _ c.from_residual.result c.from_residual.ensures.1 (as_fails _ (two_makes _) (first_fails _ (ends_closed _ _) (sample_sign RoundClose) (first_fails _ (ends_closed _ _) sample_prim c.in_err-left.ensures)))

pub read_two-read_primary-requires-2 : goal.read_two-read_primary-requires-2
read_two-read_primary-requires-2 t c = let a = not_longer _ _ c.in_ok-left.ensures in (omega (arith, a, c.decreases), tt)

pub read_two-returns : goal.read_two-returns
read_two-returns t c = reads_to_close _ _ _ _ _ (λ x. (plain_expr x.0, plain_expr x.1)) _ c.to_close.result
    (reads_kept _ _ _ plain_expr (λ x. (plain_expr x.0, plain_expr x.1)) _ _ c.kept.ensures c.read_primary-2.ensures (λ x read. then_read (ends_closed _ _) c.in_ok-left.ensures read) (λ bad fails. then_fails _ (ends_closed _ _) c.in_ok-left.ensures fails))
    c.to_close.ensures (ends_closed _ _) (two_makes _)

pub read_further-returns-in_err-parts : goal.read_further-returns-in_err-parts
read_further-returns-in_err-parts t c = λ op is. exit _ _ _ _ c.from_residual.result c.from_residual.ensures.1 (made_fails _ _ _ plain_expr _ _ c.read_primary.ensures (passes_kept _ _ _ _ c.kept-both.ensures c.in_err-parts.ensures) (λ bad fails. further_fails _ _ _ _ _ fails))

pub read_further-parts-init : goal.read_further-parts-init
read_further-parts-init t c = let e = c.in_ok-parts.ensures in let k = told_kept _ _ c.kept-both.ensures e.1 in let read = told_read _ _ plain_expr k.1 c.read_primary.ensures in (
  λ op is. further_begins _ _ _ _ _ _ [] _ _ _ _ _ is.many read refl refl is.marks refl (e.2.1 ∙ ap (λ x. (mark_in c.args.kind false, plain_expr x) ∷ (mark_in c.args.kind c.args.mark, plain_expr e.0.1) ∷ []) k.0),
  e.2.0,
  not_longer _ _ read,
)

pub read_further-returns-in_err-parts-2 : goal.read_further-returns-in_err-parts-2
read_further-returns-in_err-parts-2 t c = λ op is. exit _ _ _ _ c.from_residual-in_err-parts-2.result c.from_residual-in_err-parts-2.ensures.1 (made_fails _ _ _ plain_expr _ _ c.read_primary-in-parts.ensures c.in_err-parts-2.ensures (λ bad fails. further_next_fails _ _ _ _ _ _ _ (c.parts.invariant.0 op is) (c.is_next.ensures.no c.parts-test.true) fails))

pub read_further-parts-smaller : goal.read_further-parts-smaller
read_further-parts-smaller t c = shorter (BeginsAt Prim) _ _ (level_begins Prim) (told_read _ _ plain_expr c.in_ok-parts-2.ensures.1 c.read_primary-in-parts.ensures)

pub read_further-parts-preserved : goal.read_further-parts-preserved
read_further-parts-preserved t c = let k = c.in_ok-parts-2.ensures in let read = told_read _ _ plain_expr k.1 c.read_primary-in-parts.ensures in (
  λ op is. further_goes_on _ _ _ _ _ _ _ _ _ _ _ is.many (c.parts.invariant.0 op is) (c.is_next.ensures.no c.parts-test.true) read is.marks c.parts.invariant.1 k.2.1,
  k.2.0 ∙ c.parts.invariant.1,
  (let a = not_longer _ _ read in let b = c.parts.invariant.2 in omega (arith, a, b)),
)

pub read_further-returns : goal.read_further-returns
read_further-returns t c = λ op is.
    let place = c.args.place in let next = c.is_next.ensures.yes c.parts-test.false in
    further_ends _ _ _ _ _ _ _ _ (c.parts.invariant.0 op is) next (sign_next c.parts.reader next c.advance.ensures)
    (c.into_node-node.ensures place ∙ ap (λ k. chain k place (parts_from (marked c.parts.parts))) c.parts.invariant.1 ∙ ap (λ p. chain c.args.kind p (parts_from (marked c.parts.parts))) is.is_at)

pub read_primary-returns-in_err-first-in-Many : goal.read_primary-returns-in_err-first-in-Many
read_primary-returns-in_err-first-in-Many t c = let p = next_taken c.args.reader.now (c.is_next.ensures.yes c.if-not-is_next.false) c.advance.ensures in let o = told_found _ _ _ c.in-Many.is c.operator_next.ensures in let e = stepped _ (o.here, o.is) c.advance-in-Many.ensures in
    in_brackets _ _ _ p.0 plain_expr c.from_residual-in_err-first-in-Many.result p.1 p.2 (exit _ _ _ _ c.from_residual-in_err-first-in-Many.result c.from_residual-in_err-first-in-Many.ensures.1 (as_fails _ (many_makes _ _ _ _ e.0 e.1.many (not_minus _ e.0 e.1)) (chained_fails _ (λ x. ends_closed _ _) (many_read _ _ _ _ e.0 e.1.many) (chained_first_fails _ (λ x. ends_closed _ _) (λ x. sample_behind_first _ _ x) c.in_err-first-in-Many.ensures))))

pub read_primary-read_further-requires-in-Many : goal.read_primary-read_further-requires-in-Many
read_primary-read_further-requires-in-Many t c = let p = next_taken c.args.reader.now (c.is_next.ensures.yes c.if-not-is_next.false) c.advance.ensures in let first = taken _ _ _ p.1 in let o = told_found _ _ _ c.in-Many.is c.operator_next.ensures in let a = not_longer _ _ c.in_ok-first-in-Many.ensures in let b = taken _ _ _ (stepped _ (o.here, o.is) c.advance-in-Many.ensures).0 in (omega (arith, first, a, b, c.decreases), tt)

pub read_primary-returns-in_ok-first-in-Many : goal.read_primary-returns-in_ok-first-in-Many
read_primary-returns-in_ok-first-in-Many t c = let p = next_taken c.args.reader.now (c.is_next.ensures.yes c.if-not-is_next.false) c.advance.ensures in let o = told_found _ _ _ c.in-Many.is c.operator_next.ensures in let e = stepped _ (o.here, o.is) c.advance-in-Many.ensures in let makes = many_makes _ _ _ _ e.0 e.1.many (not_minus _ e.0 e.1) in
    in_brackets _ _ _ p.0 plain_expr _ p.1 p.2 (reads_whole _ _ _ _ _ _ (c.read_further-in-Many.ensures o.token e.1)
    (λ x read. as_read makes (chained_read (λ x. ends_closed _ _) (many_read _ _ _ _ e.0 e.1.many) (chained_read (λ x. ends_closed _ _) c.in_ok-first-in-Many.ensures read)))
    (λ bad fails. as_fails _ makes (chained_fails _ (λ x. ends_closed _ _) (many_read _ _ _ _ e.0 e.1.many) (chained_fails _ (λ x. ends_closed _ _) c.in_ok-first-in-Many.ensures fails))))

pub read_primary-returns-in-Percent : goal.read_primary-returns-in-Percent
read_primary-returns-in-Percent t c = let p = next_taken c.args.reader.now (c.is_next.ensures.yes c.if-not-is_next.false) c.advance.ensures in let o = told_found _ _ _ c.in-Percent.is c.operator_next.ensures in let e = stepped _ (o.here, o.is.0) c.advance-in-Percent.ensures in let makes = percent_makes _ (next_of Percent _ _ _ e.0 e.1) in
    let at = sym o.is.1 in
    in_brackets _ _ _ p.0 plain_expr _ p.1 p.2 (made_reads _ _ _ (λ x. (plain_expr x.0, plain_expr x.1)) plain_expr _ _ _ c.read_two.ensures c.remainder.ensures
    (λ x y is read. read_at ((λ i. chain Product (at i) (part false (plain_expr x.0) (part (is_marking (e.1 i)) (plain_expr x.1) no_parts))) ∙ sym is) (as_read makes (then_read (ends_closed _ _) (word_read Percent _ _ _ e.0 e.1) read)))
    (λ bad fails. as_fails _ makes (then_fails _ (ends_closed _ _) (word_read Percent _ _ _ e.0 e.1) fails)))

pub read_primary-returns-in-Compare : goal.read_primary-returns-in-Compare
read_primary-returns-in-Compare t c = let p = next_taken c.args.reader.now (c.is_next.ensures.yes c.if-not-is_next.false) c.advance.ensures in let o = told_found _ _ _ c.in-Compare.is c.operator_next.ensures in let e = stepped _ (o.here, o.is.0) c.advance-in-Compare.ensures in
    let at = sym o.is.1 in
    in_brackets _ _ _ p.0 plain_expr _ p.1 p.2 (made_reads _ _ _ (λ x. (plain_expr x.0, plain_expr x.1)) plain_expr _ _ _ c.read_two-in-Compare.ensures c.compared.ensures
    (λ x y is read. read_at (ap (λ p. compare p c.in-Compare.rel (plain_expr x.0) (plain_expr x.1)) at ∙ sym is) (as_read (rel_makes _ _ _ _ e.0 e.1) (then_read (ends_closed _ _) (rel_read _ _ _ _ e.0 e.1) read)))
    (λ bad fails. as_fails _ (rel_makes _ _ _ _ e.0 e.1) (then_fails _ (ends_closed _ _) (rel_read _ _ _ _ e.0 e.1) fails)))

pub read_primary-returns-in-Other : goal.read_primary-returns-in-Other
read_primary-returns-in-Other t c = let p = next_taken c.args.reader.now (c.is_next.ensures.yes c.if-not-is_next.false) c.advance.ensures in let o = told_found _ _ _ c.in-Other.is c.operator_next.ensures in in_brackets _ _ _ p.0 plain_expr _ p.1 p.2 (reads_to_close _ _ _ _ _ plain_expr _ c.to_close-in-Other.result c.read_level-in-Other.ensures c.to_close-in-Other.ensures ends_e (nested_makes _ o.0 o.1 o.2 o.3))

-- Parentheses that begin with `-`.

pub read_primary-returns-in_err-whole-in-Minus : goal.read_primary-returns-in_err-whole-in-Minus
read_primary-returns-in_err-whole-in-Minus t c = let p = next_taken c.args.reader.now (c.is_next.ensures.yes c.if-not-is_next.false) c.advance.ensures in let o = told_found _ _ _ c.in-Minus.is c.operator_next.ensures in in_brackets _ _ _ p.0 plain_expr c.from_residual.result p.1 p.2 (exit _ _ _ _ c.from_residual.result c.from_residual.ensures.1 (minus_whole_fails _ _ (next_of Minus _ _ _ o.here o.is.0) c.in_err-whole-in-Minus.ensures))

pub read_primary-read_further-requires : goal.read_primary-read_further-requires
read_primary-read_further-requires t c = let p = next_taken c.args.reader.now (c.is_next.ensures.yes c.if-not-is_next.false) c.advance.ensures in let first = taken _ _ _ p.1 in let a = not_longer _ _ c.in_ok-whole-in-Minus.ensures in (omega (arith, first, a, c.decreases), tt)

pub read_primary-returns-in-Ok : goal.read_primary-returns-in-Ok
read_primary-returns-in-Ok t c = let p = next_taken c.args.reader.now (c.is_next.ensures.yes c.if-not-is_next.false) c.advance.ensures in let o = told_found _ _ _ c.in-Minus.is c.operator_next.ensures in in_brackets _ _ _ p.0 plain_expr _ p.1 p.2 (reads_whole _ _ _ _ _ _ (c.read_further.ensures o.token (minus_operator o.is))
    (λ x read. minus_further_read (record { read = c.in_ok-whole-in-Minus.ensures; here = o.here; word = o.is.0 }) c.in-Ok.ensures read)
    (λ bad fails. minus_further_fails _ (record { read = c.in_ok-whole-in-Minus.ensures; here = o.here; word = o.is.0 }) c.in-Ok.ensures fails))

pub read_primary-returns-in-Err : goal.read_primary-returns-in-Err
read_primary-returns-in-Err t c = let p = next_taken c.args.reader.now (c.is_next.ensures.yes c.if-not-is_next.false) c.advance.ensures in let o = told_found _ _ _ c.in-Minus.is c.operator_next.ensures in in_brackets _ _ _ p.0 plain_expr _ p.1 p.2 (reads_closed _ _ _ plain_expr _ c.to_close.ensures
    (λ read. minus_close_read (record { read = c.in_ok-whole-in-Minus.ensures; here = o.here; word = o.is.0 }) c.in-Err.ensures read)
    (λ bad fails. minus_close_fails _ (record { read = c.in_ok-whole-in-Minus.ensures; here = o.here; word = o.is.0 }) c.in-Err.ensures fails))

-- Measures.

pub read_level-read_chain-requires : goal.read_level-read_chain-requires
read_level-read_chain-requires t c = (omega (arith, ap rank c.in-E.is, c.decreases), tt)

pub read_level-read_chain-requires-in-Conj : goal.read_level-read_chain-requires-in-Conj
read_level-read_chain-requires-in-Conj t c = (omega (arith, ap rank c.in-Conj.is, c.decreases), tt)

pub read_level-read_negation-requires : goal.read_level-read_negation-requires
read_level-read_negation-requires t c = (omega (arith, ap rank c.in-Neg.is, c.decreases), tt)

pub read_level-read_comparison-requires : goal.read_level-read_comparison-requires
read_level-read_comparison-requires t c = (omega (arith, ap rank c.in-Cmp.is, c.decreases), tt)

pub read_level-read_chain-requires-in-Sum : goal.read_level-read_chain-requires-in-Sum
read_level-read_chain-requires-in-Sum t c = (omega (arith, ap rank c.in-Sum.is, c.decreases), tt)

pub read_level-read_chain-requires-in-Prod : goal.read_level-read_chain-requires-in-Prod
read_level-read_chain-requires-in-Prod t c = (omega (arith, ap rank c.in-Prod.is, c.decreases), tt)

pub read_level-read_unary-requires : goal.read_level-read_unary-requires
read_level-read_unary-requires t c = (omega (arith, ap rank c.in-Unary.is, c.decreases), tt)

pub read_level-read_primary-requires : goal.read_level-read_primary-requires
read_level-read_primary-requires t c = (omega (arith, ap rank c.in-Prim.is, c.decreases), tt)

pub read_chain-read_level-requires : goal.read_chain-read_level-requires
read_chain-read_level-requires t c = (omega (arith, ap rank c.operand.ensures, tighter c.args.kind, c.decreases), tt)

pub read_chain-read_level-requires-in-Some-sign_next : goal.read_chain-read_level-requires-in-Some-sign_next
read_chain-read_level-requires-in-Some-sign_next t c = let o = c.in-Some-sign_next.ensures in let a = taken _ _ _ (stepped _ (o.here, o.sign) c.advance.ensures).0 in (omega (arith, a, c.parts.invariant.0.so_far.shorter, c.decreases), tt)

pub read_negation-read_level-requires : goal.read_negation-read_level-requires
read_negation-read_level-requires t c = (omega (arith, c.decreases), tt)

pub read_negation-read_level-requires-2 : goal.read_negation-read_level-requires-2
read_negation-read_level-requires-2 t c = let a = taken _ _ _ (stepped _ c.in-Some.ensures c.advance.ensures).0 in (omega (arith, a, c.decreases), tt)

pub read_comparison-read_level-requires : goal.read_comparison-read_level-requires
read_comparison-read_level-requires t c = (omega (arith, c.decreases), tt)

pub read_comparison-read_level-requires-2 : goal.read_comparison-read_level-requires-2
read_comparison-read_level-requires-2 t c = let o = told_found _ _ _ c.in-Compare.is c.operator_next.ensures in let a = taken _ _ _ (stepped _ (o.here, o.is) c.advance.ensures).0 in let b = not_longer _ _ c.in_ok-left.ensures in (omega (arith, a, b, c.decreases), tt)

pub read_unary-read_primary-requires : goal.read_unary-read_primary-requires
read_unary-read_primary-requires t c = (omega (arith, c.decreases), tt)

pub read_unary-read_primary-requires-2 : goal.read_unary-read_primary-requires-2
read_unary-read_primary-requires-2 t c = let o = told_found _ _ _ c.in-Minus.is c.operator_next.ensures in let a = taken _ _ _ (stepped _ (o.here, o.is) c.advance.ensures).0 in (omega (arith, a, c.decreases), tt)

pub read_primary-read_primary-requires : goal.read_primary-read_primary-requires
read_primary-read_primary-requires t c = let p = next_taken c.args.reader.now (c.is_next.ensures.yes c.if-not-is_next.false) c.advance.ensures in let first = taken _ _ _ p.1 in let a = taken _ _ _ (let o = told_found _ _ _ c.in-Many.is c.operator_next.ensures in stepped _ (o.here, o.is) c.advance-in-Many.ensures).0 in (omega (arith, first, a, c.decreases), tt)

pub read_primary-read_two-requires : goal.read_primary-read_two-requires
read_primary-read_two-requires t c = let p = next_taken c.args.reader.now (c.is_next.ensures.yes c.if-not-is_next.false) c.advance.ensures in let first = taken _ _ _ p.1 in let a = taken _ _ _ (let o = told_found _ _ _ c.in-Percent.is c.operator_next.ensures in stepped _ (o.here, o.is.0) c.advance-in-Percent.ensures).0 in (omega (arith, first, a, c.decreases), tt)

pub read_primary-read_two-requires-in-Compare : goal.read_primary-read_two-requires-in-Compare
read_primary-read_two-requires-in-Compare t c = let p = next_taken c.args.reader.now (c.is_next.ensures.yes c.if-not-is_next.false) c.advance.ensures in let first = taken _ _ _ p.1 in let a = taken _ _ _ (let o = told_found _ _ _ c.in-Compare.is c.operator_next.ensures in stepped _ (o.here, o.is.0) c.advance-in-Compare.ensures).0 in (omega (arith, first, a, c.decreases), tt)

pub read_primary-read_level-requires-in-Other : goal.read_primary-read_level-requires-in-Other
read_primary-read_level-requires-in-Other t c = let p = next_taken c.args.reader.now (c.is_next.ensures.yes c.if-not-is_next.false) c.advance.ensures in let first = taken _ _ _ p.1 in (omega (arith, first, c.decreases), tt)

pub read_primary-read_level-requires : goal.read_primary-read_level-requires
read_primary-read_level-requires t c = let p = next_taken c.args.reader.now (c.is_next.ensures.yes c.if-not-is_next.false) c.advance.ensures in let first = taken _ _ _ p.1 in (omega (arith, first, c.decreases), tt)

pub read_further-read_primary-requires : goal.read_further-read_primary-requires
read_further-read_primary-requires t c = (omega (arith, c.decreases), tt)

pub read_further-read_primary-requires-in-parts : goal.read_further-read_primary-requires-in-parts
read_further-read_primary-requires-in-parts t c = (omega (arith, c.parts.invariant.2, c.decreases), tt)

pub read_two-read_primary-requires : goal.read_two-read_primary-requires
read_two-read_primary-requires t c = (omega (arith, c.decreases), tt)
