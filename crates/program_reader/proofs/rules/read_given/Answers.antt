use Rattle.std.proofs.Common.{map, sym, ap, ◌∙◌, ◌∷◌, []}
use Rattle.std.proofs.lemmas.List.{map-append}
use Rattle.read_forms.proofs.Forms.{read_at}
use Rattle.fast_syntax.specs.View.{plain_demand}
use Rattle.label_reader.proofs.Exits.{exit, shorter, sign_next}
use Rattle.label_reader.proofs.Keeping.{told_read, made_fails}
use Rattle.program_reader.proofs.RuleForms.{given_none, given_begins, given_more, given_fails, given_ends, demand_starts}
use Rattle.program_reader.proofs.rules.read_given.Goals as goal

pub returns-then-not-is_next : goal.returns-then-not-is_next
returns-then-not-is_next c = read_at (ap (λ l. map plain_demand l) (sym c.new-all.ensures.items)) (given_none _ (c.is_next.ensures.no c.if-not-is_next.true))

pub items-init : goal.items-init
items-init c = let next = c.is_next.ensures.yes c.if-not-is_next.false in given_begins _ next (sign_next c.args.reader.now next c.advance.ensures) (ap (λ l. map plain_demand l) c.new-all.ensures.items)

pub returns-in_err-all : goal.returns-in_err-all
returns-in_err-all c = exit _ _ _ _ c.from_residual.result c.from_residual.ensures.1 (made_fails _ _ _ plain_demand _ _ c.read_demand.ensures c.in_err-all.ensures (λ bad fails. given_fails _ _ c.items.invariant fails))

pub items-smaller : goal.items-smaller
items-smaller c = shorter _ _ _ demand_starts (told_read _ _ plain_demand c.in_ok-all.ensures.1 c.read_demand.ensures)

pub items-preserved : goal.items-preserved
items-preserved c = let e = c.in_ok-all.ensures in given_more _ _ c.items.invariant (told_read _ _ plain_demand e.1 c.read_demand.ensures) (c.is_next-in-items.ensures.yes c.if-not-is_next-2.false) (ap (λ l. map plain_demand l) e.2 ∙ map-append plain_demand c.items.all.items (e.0 ∷ []))

pub returns-then-not-is_next-2 : goal.returns-then-not-is_next-2
returns-then-not-is_next-2 c = let e = c.in_ok-all.ensures in given_ends _ _ c.items.invariant (told_read _ _ plain_demand e.1 c.read_demand.ensures) (c.is_next-in-items.ensures.no c.if-not-is_next-2.true) (ap (λ l. map plain_demand l) e.2 ∙ map-append plain_demand c.items.all.items (e.0 ∷ []))
