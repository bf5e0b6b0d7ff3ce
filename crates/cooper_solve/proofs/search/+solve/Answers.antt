use Rattle.std.proofs.Common.{◌≡◌, ℕ, suc, ◌+◌, ◌-◌, length, get_or, take_all, ap, sym, subst, ◌∙◌, refl, rules, to_z, of_z, arith}
use Rattle.std.proofs.Math.IntN.{ℤ, pos, ◌+ℤ◌, ◌*ℤ◌}
use Rattle.std.specs.Prelude.{unsigned_abs, FitsSigned, ◌≤ℤ◌, ◌<ℤ◌}
use Rattle.std.specs.Int.{w128}
use Rattle.std.specs.List.{All}
use Rattle.std.proofs.lemmas.Int.{to_z-of_z, ints}
use Rattle.std.proofs.lemmas.List.Elements.{All-more}
use Rattle.math_cooper.specs.System.{Affine, put_all, Solves, affine_value}
use Rattle.math_cooper.specs.Puts.{Absent, Occurs, InSystem, AllFit, Passes128}
use Rattle.cooper_solve.specs.declared.found.Put.{Put}
use Rattle.cooper_solve.specs.Views.{base_form, OnWide, WideInForm, WideInSystem, NoneFrom, IsSystem}
use Rattle.cooper_solve.specs.Told.{put_of, puts_of, NoneBelow, Tells, TellsAfter, TellsFrom, TellsOver, WideBefore}
use Rattle.cooper_solve.specs.Back.{IsBack}
use Rattle.cooper_solve.specs.Turns.{TellsTurn, PassesOver}
use Rattle.cooper_solve.proofs.Stepping.{form_at, put_system, back_from}
use Rattle.cooper_solve.proofs.Telling.{none_more, offset_below, turn_form, turn_system, turn_found, one_skipped, found_of, cut_system, if_ok_map, counted, tells_past, tells_over, tells_before, after_wide, after_far, after_back, kept_length}
use Rattle.cooper_solve.proofs.search.+solve.Goals as goal

-- ---- the offsets from one bound

pub at_bound-loop-offset-preserved : goal.at_bound-loop-offset-preserved
at_bound-loop-offset-preserved t c =
    let s = c.args.step.now in
    let i = c.args.last in
    let k = c.args.bound in
    let R = s.scaled.items in
    let d = s.direction in
    let o = to_z w128 c.loop-offset.offset-bits in
    let n = c.in-Skip.count in
    let inv = c.loop-offset.invariant in
    let natural = inv.natural in
    let fn : FitsSigned w128 n = search rules in
    let fd : FitsSigned w128 s.period = search rules in
    let h = subst (TellsTurn i s.scale s.period d R k o) c.in-Skip.is (c.in_ok-count.ensures {u = tt}) in
    let more = h.0 in
    let most = h.1 in
    let fsum : FitsSigned w128 (o +ℤ n) = omega (arith, ints) in
    let back : to_z w128 (of_z w128 (o +ℤ to_z w128 (of_z w128 n))) ≡ o +ℤ n = (λ j. to_z w128 (of_z w128 (o +ℤ to_z-of_z w128 n fn j))) ∙ to_z-of_z w128 (o +ℤ n) fsum in
    record {
      natural = subst (λ z. pos 0 ≤ℤ z) (sym back) (omega (arith, ints));
      most = subst (λ z. z ≤ℤ s.period) (sym back) most;
      none = subst (NoneBelow i d R k) (sym back) (none_more i k d R o n natural inv.none h.2);
    }

pub at_bound-returns : goal.at_bound-returns
at_bound-returns t c =
    let s = c.args.step.now in
    let o = to_z w128 c.loop-offset.offset-bits in
    let inv = c.loop-offset.invariant in
    let most = inv.most in
    let fd : FitsSigned w128 s.period = search rules in
    let p = c.requires.step.period in
    let same : o ≡ pos (unsigned_abs s.period) = omega (arith, ints, c.loop-offset-test.false) in
    subst (NoneBelow c.args.last s.direction s.scaled.items c.args.bound) same inv.none

-- ---- one offset

pub at_offset-returns-in-Err-TooWide : goal.at_offset-returns-in-Err-TooWide
at_offset-returns-in-Err-TooWide t c =
    let s = c.args.step.now in
    let i = c.args.last in
    let k = c.args.bound in
    let o = c.args.offset in
    let R = s.scaled.items in
    let d = s.direction in
    let back = to_z-of_z w128 o c.ranges.offset in
    let g = base_form d i R k (unsigned_abs o) in
    let same : base_form d i c.deref.result.now k (unsigned_abs (to_z w128 (of_z w128 o))) ≡ g = λ j. base_form d i (c.deref.ensures.value j) k (unsigned_abs (back j)) in
    let w = subst (OnWide (WideInForm (base_form d i c.deref.result.now k (unsigned_abs (to_z w128 (of_z w128 o)))))) c.in-Err-TooWide.field-0-is (c.in-Err-TooWide.ensures {u = tt}) in
    (tt, (unsigned_abs o, offset_below o s.period c.requires.natural c.requires.below, turn_form i k g (put_all i g R) o (record { variable = i; bound = k; offset = to_z w128 (of_z w128 o) }) c.in_ok-only_put-in-Err-TooWide.field-0.items refl refl back (c.in_ok-only_put-in-Err-TooWide.ensures {u = tt}) (subst WideInForm same w)))

pub at_offset-put_each-requires-clause-fits : goal.at_offset-put_each-requires-clause-fits
at_offset-put_each-requires-clause-fits t c =
    let s = c.args.step.now in
    let i = c.args.last in
    let k = c.args.bound in
    let o = c.args.offset in
    let d = s.direction in
    let same : base_form d i c.deref.result.now k (unsigned_abs (to_z w128 (of_z w128 o))) ≡ base_form d i s.scaled.items k (unsigned_abs o) = λ j. base_form d i (c.deref.ensures.value j) k (unsigned_abs (to_z-of_z w128 o c.ranges.offset j)) in
    ap (λ (f : Affine). length f.coefficients) (c.in-Ok.ensures {u = tt} ∙ same) ∙ form_at i s.scale s.period s.scaled.items d s.bounds.items c.requires.step k c.requires.bound (unsigned_abs o)

pub at_offset-returns-in-Err-TooWide-put_each : goal.at_offset-returns-in-Err-TooWide-put_each
at_offset-returns-in-Err-TooWide-put_each t c =
    let s = c.args.step.now in
    let i = c.args.last in
    let k = c.args.bound in
    let o = c.args.offset in
    let R = s.scaled.items in
    let d = s.direction in
    let back = to_z-of_z w128 o c.ranges.offset in
    let g = base_form d i R k (unsigned_abs o) in
    let same : base_form d i c.deref.result.now k (unsigned_abs (to_z w128 (of_z w128 o))) ≡ g = λ j. base_form d i (c.deref.ensures.value j) k (unsigned_abs (back j)) in
    let form = c.in-Ok.ensures {u = tt} ∙ same in
    let w = subst (OnWide (WideInSystem (put_all i c.in-Ok.form c.deref-2.result.now))) c.in-Err-TooWide-put_each.field-0-is (c.in-Err-TooWide-put_each.ensures {u = tt}) in (
      tt,
      (
        unsigned_abs o,
        offset_below o s.period c.requires.natural c.requires.below,
        turn_system i k g (put_all i g R) o (record { variable = i; bound = k; offset = to_z w128 (of_z w128 o) }) c.in_ok-only_put-in-Err-TooWide-put_each.field-0.items refl refl back (c.in_ok-only_put-in-Err-TooWide-put_each.ensures {u = tt})
            (subst (λ f. WideInSystem (put_all i f R)) form (subst (λ T. WideInSystem (put_all i c.in-Ok.form T)) c.deref-2.ensures.value w)),
      ),
    )

pub at_offset-returns-then-skipped-gt0 : goal.at_offset-returns-then-skipped-gt0
at_offset-returns-then-skipped-gt0 t c =
    let s = c.args.step.now in
    let i = c.args.last in
    let k = c.args.bound in
    let o = c.args.offset in
    let R = s.scaled.items in
    let d = s.direction in
    let r = c.skip-skipped.result in
    let fo = c.ranges.offset in
    let fr : FitsSigned w128 r = search rules in
    let fd : FitsSigned w128 s.period = search rules in
    let back = to_z-of_z w128 o fo in
    let whole = to_z-of_z w128 r fr in
    let natural = c.requires.natural in
    let below = c.requires.below in
    let most = c.skip-skipped.ensures.most in
    let low = c.skip-skipped.ensures.natural in
    let g = base_form d i R k (unsigned_abs o) in
    let same : base_form d i c.deref.result.now k (unsigned_abs (to_z w128 (of_z w128 o))) ≡ g = λ j. base_form d i (c.deref.ensures.value j) k (unsigned_abs (back j)) in
    let form = c.in-Ok.ensures {u = tt} ∙ same in
    let next : c.deref-3.result.now ≡ put_all i g R = c.deref-3.ensures.value ∙ c.in-Ok-put_each.ensures {u = tt} ∙ (λ j. put_all i (form j) (c.deref-2.ensures.value j)) in
    let none : NoneFrom i d R c.deref-3.result.now r = subst (λ T. NoneFrom i d T c.deref-3.result.now r) c.deref-4.ensures.value c.skip-skipped.ensures.none in (
      omega (arith, ints, c.if-skipped-gt0.true),
      omega (arith, ints),
      λ m l. none k (unsigned_abs o) next m (subst (λ z. pos m <ℤ z) whole l),
    )

pub at_offset-go_on-requires : goal.at_offset-go_on-requires
at_offset-go_on-requires t c =
    let s = c.args.step.now in
    let i = c.args.last in
    let k = c.args.bound in
    let o = c.args.offset in
    let R = s.scaled.items in
    let d = s.direction in
    let fc : FitsSigned w128 s.scale = search rules in
    let scale = to_z-of_z w128 s.scale fc in
    let back = to_z-of_z w128 o c.ranges.offset in
    let g = base_form d i R k (unsigned_abs o) in
    let same : base_form d i c.deref.result.now k (unsigned_abs (to_z w128 (of_z w128 o))) ≡ g = λ j. base_form d i (c.deref.ensures.value j) k (unsigned_abs (back j)) in
    let form = c.in-Ok.ensures {u = tt} ∙ same in
    let len : length c.in-Ok.form.coefficients ≡ i = ap (λ (f : Affine). length f.coefficients) form ∙ form_at i s.scale s.period R d s.bounds.items c.requires.step k c.requires.bound (unsigned_abs o) in
    let next : c.deref-5.result.now ≡ put_all i c.in-Ok.form R = c.deref-5.ensures.value ∙ c.in-Ok-put_each.ensures {u = tt} ∙ ap (put_all i c.in-Ok.form) c.deref-2.ensures.value in (
      omega arith,
      (
        subst (IsSystem i) (sym next) (put_system i c.in-Ok.form R c.requires.step.system),
        (
          len,
          (
            subst (λ z. pos 0 <ℤ z) (sym scale) c.requires.step.scale,
            (λ ws l h. subst (λ z. (x : ℤ) × (affine_value c.in-Ok.form ws ≡ pos (unsigned_abs z) *ℤ x)) (sym scale)
                (back_from i (unsigned_abs s.scale) R c.in-Ok.form c.requires.step.system c.requires.step.divides len ws l (subst (Solves ws) next h))),
          ),
        ),
      ),
    )

pub at_offset-returns-in-Unsat : goal.at_offset-returns-in-Unsat
at_offset-returns-in-Unsat t c =
    let s = c.args.step.now in
    let i = c.args.last in
    let k = c.args.bound in
    let o = c.args.offset in
    let R = s.scaled.items in
    let d = s.direction in
    let below = c.requires.below in
    let back = to_z-of_z w128 o c.ranges.offset in
    let g = base_form d i R k (unsigned_abs o) in
    let same : base_form d i c.deref.result.now k (unsigned_abs (to_z w128 (of_z w128 o))) ≡ g = λ j. base_form d i (c.deref.ensures.value j) k (unsigned_abs (back j)) in
    let form = c.in-Ok.ensures {u = tt} ∙ same in
    let next : c.deref-5.result.now ≡ put_all i c.in-Ok.form R = c.deref-5.ensures.value ∙ c.in-Ok-put_each.ensures {u = tt} ∙ ap (put_all i c.in-Ok.form) c.deref-2.ensures.value in
    let p : Put = record { variable = i; bound = k; offset = to_z w128 (of_z w128 o) } in
    let h = c.in_ok-found.ensures {u = tt} in
    (omega (arith, ints), omega (arith, ints), one_skipped i k d R c.deref-5.result.now c.in-Ok.form o form next (subst (TellsAfter i (unsigned_abs (to_z w128 (of_z w128 s.scale))) c.in-Ok.form c.deref-5.result.now (put_of p)) c.in-Unsat.is h))

pub at_offset-returns : goal.at_offset-returns
at_offset-returns t c =
    let s = c.args.step.now in
    let i = c.args.last in
    let k = c.args.bound in
    let o = c.args.offset in
    let R = s.scaled.items in
    let d = s.direction in
    let fc : FitsSigned w128 s.scale = search rules in
    let back = to_z-of_z w128 o c.ranges.offset in
    let g = base_form d i R k (unsigned_abs o) in
    let same : base_form d i c.deref.result.now k (unsigned_abs (to_z w128 (of_z w128 o))) ≡ g = λ j. base_form d i (c.deref.ensures.value j) k (unsigned_abs (back j)) in
    let form = c.in-Ok.ensures {u = tt} ∙ same in
    let next : c.deref-5.result.now ≡ put_all i c.in-Ok.form R = c.deref-5.ensures.value ∙ c.in-Ok-put_each.ensures {u = tt} ∙ ap (put_all i c.in-Ok.form) c.deref-2.ensures.value in
    let p : Put = record { variable = i; bound = k; offset = to_z w128 (of_z w128 o) } in
    let h = subst (λ z. TellsAfter i (unsigned_abs z) c.in-Ok.form c.deref-5.result.now (put_of p) c.in_ok-found.found) (to_z-of_z w128 s.scale fc) (c.in_ok-found.ensures {u = tt}) in
    (found_of c.in_ok-found.found c.in_default.not-Unsat, turn_found i k s.scale s.period d R c.deref-5.result.now c.in-Ok.form o p c.in_ok-found.found c.requires.natural c.requires.below refl refl back form next h)

-- ---- after a put

pub go_on-go_back-requires-clause-values : goal.go_on-go_back-requires-clause-values
go_on-go_back-requires-clause-values t c =
    let h = subst (Tells c.args.last c.args.next.now) c.in-Solved.is (c.in_ok-solve.ensures {u = tt}) in
    kept_length c.args.last c.args.scale c.args.form.now c.args.next.now c.args.put c.requires.next c.requires.back c.form_fits.ensures c.in-Solved.solution h

pub go_on-returns-in_ok-with_put-in-Wide : goal.go_on-returns-in_ok-with_put-in-Wide
go_on-returns-in_ok-with_put-in-Wide t c =
    let h = subst (Tells c.args.last c.args.next.now) c.in-Wide.is (c.in_ok-solve.ensures {u = tt}) in
    after_wide c.args.last c.args.scale c.args.form.now c.args.next.now c.args.put c.requires.next c.requires.back c.form_fits.ensures c.in-Wide.puts.items c.in_ok-with_put-in-Wide.field-0.items (c.in_ok-with_put-in-Wide.ensures {u = tt}) h

pub go_on-returns-in_ok-with_put-in-Far : goal.go_on-returns-in_ok-with_put-in-Far
go_on-returns-in_ok-with_put-in-Far t c =
    let h = subst (Tells c.args.last c.args.next.now) c.in-Far.is (c.in_ok-solve.ensures {u = tt}) in
    after_far c.args.last c.args.scale c.args.form.now c.args.next.now c.args.put c.requires.next c.requires.back c.form_fits.ensures c.in-Far.puts.items c.in_ok-with_put-in-Far.field-0.items (c.in_ok-with_put-in-Far.ensures {u = tt}) h

pub go_on-returns-in-Solved : goal.go_on-returns-in-Solved
go_on-returns-in-Solved t c =
    let i = c.args.last in
    let g = c.args.form.now in
    let T = c.args.next.now in
    let s = c.in-Solved.solution in
    let back = to_z-of_z w128 c.args.scale c.ranges.scale in
    let h = subst (Tells i T) c.in-Solved.is (c.in_ok-solve.ensures {u = tt}) in
    if_ok_map c.go_back.result (IsBack s c.args.put g (to_z w128 (of_z w128 c.args.scale)) i) (TellsAfter i (unsigned_abs c.args.scale) g T (put_of c.args.put))
    (λ f b. after_back i c.args.scale g T c.args.put c.requires.next c.requires.back c.form_fits.ensures c.requires.scale s f h (subst (λ z. IsBack s c.args.put g z i f) back b)) c.go_back.ensures

-- ---- the bounds

pub over_bounds-loop-bound-preserved : goal.over_bounds-loop-bound-preserved
over_bounds-loop-bound-preserved t c =
    let s = c.args.step.now in
    let i = c.args.last in
    let B = c.deref-bound-items.result.now in
    let k = get_or B c.loop-bound.bound-index 0 in
    let P : ℕ → Type 0 = λ k. NoneBelow i s.direction s.scaled.items k (pos (unsigned_abs s.period)) in
    let h = subst (TellsFrom i (unsigned_abs s.scale) (unsigned_abs s.period) s.direction s.scaled.items k) c.in-Unsat.is (c.in_ok-found.ensures {u = tt}) in
    All-more P B c.loop-bound.bound-index 0 (omega arith) c.loop-bound.invariant h

pub over_bounds-returns : goal.over_bounds-returns
over_bounds-returns t c =
    let s = c.args.step.now in
    let i = c.args.last in
    let B = c.deref-bound-items.result.now in
    let P : ℕ → Type 0 = λ k. NoneBelow i s.direction s.scaled.items k (pos (unsigned_abs s.period)) in
    subst (All P) (take_all c.loop-bound.bound-index B (omega arith) ∙ c.deref-bound-items.ensures.value) c.loop-bound.invariant

-- ---- the system

pub solve-solve-requires : goal.solve-solve-requires
solve-solve-requires t c =
    let i = c.args.count - 1 in
    let e : c.args.count ≡ i + 1 = omega arith in
    (omega arith, subst (IsSystem i) (sym (c.deref.ensures.value ∙ c.in_ok-smaller.ensures {u = tt})) (cut_system i c.args.system.now (subst (λ n. IsSystem n c.args.system.now) e c.requires)))

pub solve-returns-then-not-occurs : goal.solve-returns-then-not-occurs
solve-returns-then-not-occurs t c =
    let i = c.args.count - 1 in
    let S = c.args.system.now in
    let e : c.args.count ≡ i + 1 = omega arith in
    let f : suc i ≡ c.args.count = omega arith in
    let wide = (subst (λ n. IsSystem n S) e c.requires).0 in
    let absent : Absent i S = c.if-not-occurs.ensures {u = tt} in
    let deep = subst (λ T. Tells i T c.in_ok-solve.field-0) (c.deref.ensures.value ∙ c.in_ok-smaller.ensures {u = tt}) (c.in_ok-solve.ensures {u = tt}) in
    if_ok_map c.pass_over.result (PassesOver i c.in_ok-solve.field-0) (Tells c.args.count S) (λ g o. counted i c.args.count S g f (tells_past i S wide absent c.system_fits.ensures c.in_ok-solve.field-0 g deep o)) c.pass_over.ensures

pub solve-returns-in-Err-TooWide : goal.solve-returns-in-Err-TooWide
solve-returns-in-Err-TooWide t c =
    let i = c.args.count - 1 in
    let S = c.args.system.now in
    let f : suc i ≡ c.args.count = omega arith in
    let some : Occurs i S = c.if-not-occurs.ensures {u = tt} in
    let w = subst (OnWide (WideBefore i S)) c.in-Err-TooWide.field-0-is (c.in-Err-TooWide.ensures {u = tt}) in
    subst (λ n. Passes128 n S (puts_of c.new-in-Err-TooWide.result.items)) f (tells_before i S c.new-in-Err-TooWide.result.items c.new-in-Err-TooWide.ensures.items some w)

pub solve-returns : goal.solve-returns
solve-returns t c =
    let i = c.args.count - 1 in
    let S = c.args.system.now in
    let s = c.in-Ok.step in
    let e : c.args.count ≡ i + 1 = omega arith in
    let f : suc i ≡ c.args.count = omega arith in
    let wide = (subst (λ n. IsSystem n S) e c.requires).0 in
    let some : Occurs i S = c.if-not-occurs.ensures {u = tt} in
    let fc : FitsSigned w128 s.scale = search rules in
    let fd : FitsSigned w128 s.period = search rules in
    let of = c.in-Ok.ensures {u = tt} in
    let scaled = subst (λ T. AllFit (InSystem T)) c.deref-2.ensures.value c.system_fits-2.ensures in
    if_ok_map c.over_bounds.result (TellsOver i (unsigned_abs s.scale) (unsigned_abs s.period) s.direction s.scaled.items s.bounds.items) (Tells c.args.count S)
    (λ g h. counted i c.args.count S g f (tells_over i S s.scaled.items s.scale s.period s.direction s.bounds.items of some c.system_fits.ensures scaled fc fd wide g h)) c.over_bounds.ensures
