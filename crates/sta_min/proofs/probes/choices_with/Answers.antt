use Rattle.std.proofs.Common.{◌≡◌, ◌<◌, ◌+◌, ◌++◌, ◌∷◌, [], take, get_or, length, sym, ap, ◌∙◌, arith}
use Rattle.std.proofs.lemmas.List.{length-map, length-take-le, take_more, take_all}
use Rattle.sta_classes.specs.Rows.{lists_of}
use Rattle.sta_classes.proofs.Rows.{list_at, lists_push}
use Rattle.sta_min.specs.Probes.{with_one}
use Rattle.sta_min.proofs.Probing.{one_here, one_other}
use Rattle.sta_min.proofs.probes.choices_with.Goals as goal
use Rattle.sta_min.proofs.probes.choices_with.Goals.{then-j-place, else-j-place}

pub places-preserved : goal.places-preserved
places-preserved c =
    let all = lists_of c.args.kinds.now in
    let j = c.places.j in
    let low : j < length all = omega (arith, c.places-test.true, length-map c.args.kinds.now (λ v. v.items)) in
    let long : length (take j all) ≡ j = length-take-le j all (omega (arith, low)) in
    let here : c.in_ok-those.those.items ≡ get_or all j [] = c.in_ok-those.ensures.items ∙ list_at c.args.kinds.now j c.index-kinds-j.result c.deref.result.now c.places-test.true c.index-kinds-j.is c.deref.ensures.value in
    let last : lists_of c.push.new.self.items ≡ lists_of c.places.choices.items ++ c.if-j-place.those.items ∷ [] = ap lists_of c.in_ok-push.ensures.items ∙ lists_push c.places.choices.items c.if-j-place.those in
    let next : take (j + 1) all ≡ take j all ++ get_or all j [] ∷ [] = take_more all j [] low in
    elim c.if-j-place.branch [
      | then-j-place w ↦
          let cut : c.if-j-place.those.items ≡ take 1 (get_or all j []) = ap (λ v. v.items) w.those-is ∙ w.truncate.ensures.items ∙ ap (take 1) here in
          last ∙ ap (λ l. lists_of c.places.choices.items ++ l ∷ []) cut ∙ ap (λ l. l ++ take 1 (get_or all j []) ∷ []) c.places.invariant ∙ sym (ap (λ l. with_one l c.args.place) next ∙ one_here (take j all) (get_or all j []) c.args.place (long ∙ w.if-j-place.true))
      | else-j-place w ↦
          let same : c.if-j-place.those.items ≡ get_or all j [] = ap (λ v. v.items) w.those-is ∙ here in
          last ∙ ap (λ l. lists_of c.places.choices.items ++ l ∷ []) same ∙ ap (λ l. l ++ get_or all j [] ∷ []) c.places.invariant ∙ sym (ap (λ l. with_one l c.args.place) next ∙ one_other (take j all) (get_or all j []) c.args.place (λ e. w.if-j-place.false (sym long ∙ e)))
    ]

pub returns : goal.returns
returns c = c.places.invariant ∙ ap (λ l. with_one l c.args.place) (take_all c.places.j (lists_of c.args.kinds.now) (omega (arith, c.places-test.false, length-map c.args.kinds.now (λ v. v.items))))
