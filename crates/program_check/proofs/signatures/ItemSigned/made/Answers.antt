use Rattle.std.proofs.Common.{List, Some, sym, ap, ◌∙◌, map, subst}
use Rattle.std.specs.Option.{option_map}
use Rattle.std.proofs.lemmas.Simd.{map-map}
use Rattle.fast_syntax.specs.View.{plain_field, plain_ctor, plain_type}
use Rattle.fast_syntax.specs.declared.FieldItem.{FieldItem}
use Rattle.fast_syntax.specs.declared.CtorItem.{CtorItem}
use Rattle.model_meaning.specs.Types.{signature_of}
use Rattle.program_check.specs.Signed.{field_of, constructor_of, HaveRanks}
use Rattle.program_check.proofs.Ranked.{rank_at}
use Rattle.program_check.proofs.signatures.ItemSigned.made.Goals as goal

pub all_made-requires : goal.all_made-requires
all_made-requires c = λ i x low is. tt

pub all_made-requires-in-Some : goal.all_made-requires-in-Some
all_made-requires-in-Some c =
    let ranks = c.requires (plain_type c.in-Some.own.now) (sym c.own_type.ensures ∙ ap (option_map (λ t. plain_type t.now)) c.in-Some.is) in
    λ i x low is. rank_at plain_ctor c.deref-in-Some.result.now i x (subst (λ (xs : List CtorItem). HaveRanks (map plain_ctor xs)) (sym c.deref-in-Some.ensures.value) ranks) low is

pub returns-in_ok-all_made-in-Some-2 : goal.returns-in_ok-all_made-in-Some-2
returns-in_ok-all_made-in-Some-2 c =
    let own = c.in-Some.own.now in
    let fields = c.in_ok-all_made-in-Some.ensures ∙ ap (map (λ (f : FieldItem). field_of (plain_field f))) c.deref.ensures.value ∙ sym (map-map field_of plain_field own.fields.items) in
    let constructors = c.in_ok-all_made-in-Some-2.ensures ∙ ap (map (λ (k : CtorItem). constructor_of (plain_ctor k))) c.deref-in-Some.ensures.value ∙ sym (map-map constructor_of plain_ctor own.ctors.items) in
    (λ i. Some (record { name = c.in_ok-copy-in-Some.ensures i; fields = fields i; constructors = constructors i }))
    ∙ ap (option_map signature_of) (sym (ap (option_map (λ t. plain_type t.now)) c.in-Some.is) ∙ c.own_type.ensures)
