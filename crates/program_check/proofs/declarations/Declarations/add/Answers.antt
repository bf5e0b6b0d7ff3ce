use Rattle.std.proofs.Common.{[], ◌∷◌, ◌++◌, map, refl, sym, ap, ◌∙◌}
use Rattle.std.specs.Option.{option_map}
use Rattle.std.proofs.lemmas.List.{map-append}
use Rattle.fast_syntax.specs.View.{plain_type}
use Rattle.fast_syntax.specs.Plain.{plain_item}
use Rattle.program_check.specs.Naming.{place_in}
use Rattle.program_check.specs.Heads.{plain_head}
use Rattle.program_check.proofs.Declaring.{type_declared, name_declared, none_declared}
use Rattle.program_check.proofs.declarations.Declarations.add.Goals as goal

pub returns-in-Some : goal.returns-in-Some
returns-in-Some c =
    let before = c.args.self.now.ctors.items in
    type_declared c.args.self.now _ (plain_item c.args.item.now) c.args.place _ (plain_type c.in-Some.own.now) (sym c.own_type.ensures ∙ ap (option_map (λ t. plain_type t.now)) c.in-Some.is) refl
    (ap (map place_in) c.in_ok-push.ensures.items ∙ map-append place_in before (_ ∷ []) ∙ ap (λ x. map place_in before ++ x ∷ []) (λ i name. c.in_ok-number_ctors.ensures name i)) c.add.ensures

pub returns-in-Some-head_of : goal.returns-in-Some-head_of
returns-in-Some-head_of c =
    let before = c.args.self.now.ctors.items in
    name_declared c.args.self.now _ (plain_item c.args.item.now) c.args.place _ (plain_head c.in-Some-head_of.head) (sym c.own_type.ensures ∙ ap (option_map (λ t. plain_type t.now)) c.in_default.is)
    (sym c.head_of.ensures ∙ ap (option_map plain_head) c.in-Some-head_of.is) refl
    (ap (map place_in) c.in_ok-push.ensures.items ∙ map-append place_in before (_ ∷ []) ∙ ap (λ x. map place_in before ++ x ∷ []) (λ i name. c.in_ok-number_ctors.ensures name i)) c.add-in-Some-head_of.ensures

pub returns-in-None : goal.returns-in-None
returns-in-None c =
    let before = c.args.self.now.ctors.items in
    none_declared c.args.self.now _ (plain_item c.args.item.now) c.args.place (sym c.own_type.ensures ∙ ap (option_map (λ t. plain_type t.now)) c.in_default.is)
    (sym c.head_of.ensures ∙ ap (option_map plain_head) c.in-None.is) refl refl
    (ap (map place_in) c.in_ok-push.ensures.items ∙ map-append place_in before (_ ∷ []) ∙ ap (λ x. map place_in before ++ x ∷ []) (λ i name. c.in_ok-number_ctors.ensures name i))
