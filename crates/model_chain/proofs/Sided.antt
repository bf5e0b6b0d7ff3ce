-- Literals hold exactly where they do with some sides.
use Rattle.std.proofs.Common.{◌≡◌, suc, List, [], ◌∷◌, length, drop, get_or, Bool, true, false, cond, arith, refl, ap, sym, ◌∙◌}
use Rattle.std.proofs.Math.IntN.{ℤ}
use Rattle.std.specs.Prelude.{◌≤ℤ◌, ◌<ℤ◌, int_lt}
use Rattle.std.specs.Ordering.{int_eq}
use Rattle.std.proofs.lemmas.Int.{ints, by_lt_z}
use Rattle.std.proofs.lemmas.List.Elements.{All-nil, All-cons, All-head, All-tail}
use Rattle.model_form.specs.Form.{value}
use Rattle.model_chain.specs.Literals.{Relation, less, at_most, equal, related, Literal, compare_holds, HoldsAll, needs_side, is_not_equal, count_sides, own_side, later_sides}
use Rattle.model_chain.specs.Sides.{HoldsOn, HoldWith}

-- ---- two numbers

lt_true : (x y : ℤ) → x <ℤ y → int_lt x y ≡ true
lt_true x y h = grind (arith, ints)

lt_false : (x y : ℤ) → y ≤ℤ x → int_lt x y ≡ false
lt_false x y h = grind (arith, ints)

lt_out : (x y : ℤ) → int_lt x y ≡ true → x <ℤ y
lt_out x y e = grind (arith, ints)

ge_out : (x y : ℤ) → int_lt x y ≡ false → y ≤ℤ x
ge_out x y e = grind (arith, ints)

eq_true : (x y : ℤ) → x ≡ y → int_eq x y ≡ true
eq_true x y e = rw (lt_false x y (omega (arith, ints)), lt_false y x (omega (arith, ints))) refl

eq_below : (x y : ℤ) → x <ℤ y → int_eq x y ≡ false
eq_below x y h = rw (lt_true x y h) refl

eq_above : (x y : ℤ) → y <ℤ x → int_eq x y ≡ false
eq_above x y h = rw (lt_false x y (omega (arith, ints)), lt_true y x h) refl

pub on_out : (r : Relation) (positive side : Bool) (x y : ℤ) → HoldsOn r positive side x y → related r x y ≡ positive
on_out less true side x y h = lt_true x y h
on_out less false side x y h = lt_false x y h
on_out at_most true side x y h = ap (λ b. cond b false true) (lt_false y x h)
on_out at_most false side x y h = ap (λ b. cond b false true) (lt_true y x h)
on_out equal true side x y h = eq_true x y h
on_out equal false true x y h = eq_above x y h
on_out equal false false x y h = eq_below x y h

not_both : true ≡ false → {P : Type 0} → P
not_both e = cc

pub on_in : (r : Relation) (positive : Bool) (x y : ℤ) → related r x y ≡ positive → (side : Bool) × HoldsOn r positive side x y
on_in less true x y e = (true, lt_out x y e)
on_in less false x y e = (true, ge_out x y e)
on_in at_most true x y e = (true, by_lt_z y x (λ l. not_both (sym e ∙ ap (λ b. cond b false true) (lt_true y x l))) (λ l. l))
on_in at_most false x y e = (true, by_lt_z y x (λ l. l) (λ l. not_both (sym (ap (λ b. cond b false true) (lt_false y x l)) ∙ e)))
on_in equal true x y e = (true, by_lt_z x y (λ l. not_both (sym e ∙ eq_below x y l)) (λ g. by_lt_z y x (λ l. not_both (sym e ∙ eq_above x y l)) (λ k. omega (arith, ints))))
on_in equal false x y e = by_lt_z x y (λ l. (false, l)) (λ g. by_lt_z y x (λ l. (true, l)) (λ k. not_both (sym (eq_true x y (omega (arith, ints))) ∙ e)))

-- where no side is needed, any will do
any_side : (r : Relation) (positive : Bool) (s t : Bool) (x y : ℤ) → is_not_equal r positive ≡ false → HoldsOn r positive s x y → HoldsOn r positive t x y
any_side less true s t x y e h = h
any_side less false s t x y e h = h
any_side at_most true s t x y e h = h
any_side at_most false s t x y e h = h
any_side equal true s t x y e h = h
any_side equal false s t x y e h = not_both e

-- ---- literals

pub hold_out : (ls : List Literal) (sides : List Bool) (values : List ℤ) → HoldWith ls sides values → HoldsAll ls values
hold_out [] sides values h = All-nil (λ l. compare_holds l.compare values ≡ l.positive)
hold_out (l ∷ ls) sides values h =
    All-cons (λ l. compare_holds l.compare values ≡ l.positive) l ls (on_out l.compare.relation l.positive (own_side l sides) (value l.compare.left values) (value l.compare.right values) h.0) (hold_out ls (later_sides l sides) values h.1)

pub hold_in : (ls : List Literal) (values : List ℤ) → HoldsAll ls values → (sides : List Bool) × (length sides ≡ count_sides ls) × HoldWith ls sides values
hold_in [] values h = ([], refl, tt)
hold_in (l ∷ ls) values h =
    let P = λ (l : Literal). compare_holds l.compare values ≡ l.positive in
    let own = on_in l.compare.relation l.positive (value l.compare.left values) (value l.compare.right values) (All-head P l ls h) in
    with_side (needs_side l) refl own.0 own.1 (hold_in ls values (All-tail P l ls h))
  where
    H : Bool → Type 0
    H side = HoldsOn l.compare.relation l.positive side (value l.compare.left values) (value l.compare.right values)

    with_side : (b : Bool) → needs_side l ≡ b → (side : Bool) → H side → (sides : List Bool) × (length sides ≡ count_sides ls) × HoldWith ls sides values
        → (sides : List Bool) × (length sides ≡ cond b (suc (count_sides ls)) (count_sides ls)) × (H (cond b (get_or sides 0 true) true) × HoldWith ls (cond b (drop 1 sides) sides) values)
    with_side true e side h r = (side ∷ r.0, ap suc r.1, (h, r.2))
    with_side false e side h r = (r.0, r.1, (any_side l.compare.relation l.positive side true (value l.compare.left values) (value l.compare.right values) e h, r.2))
