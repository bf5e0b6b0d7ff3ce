use Rattle.std.proofs.Common.{◌<◌, sym, subst, ◌∙◌, arith}
use Rattle.sttr_apply.specs.Calls.{uses_in, IsFirst, IsNowhere}
use Rattle.sttr_apply.proofs.Used.{first_low, first_state, first_used, used_once_less, nowhere_used, still_found}
use Rattle.sttr_apply.proofs.calls.take.Goals as goal

pub index_mut-requires : goal.index_mut-requires
index_mut-requires g c =
    let low = first_low (λ e. (e.state, e.uses)) c.args.state c.args.entries.now.items c.in-Some.place (subst (λ xs. IsFirst c.args.state c.in-Some.place (uses_in xs)) c.deref.ensures.value c.in-Some.ensures.some) in
    omega (arith, low, c.args.entries.now.ok.0)

pub take_from-requires : goal.take_from-requires
take_from-requires g c =
    let first : IsFirst c.args.state c.in-Some.place (uses_in c.args.entries.now.items) = subst (λ xs. IsFirst c.args.state c.in-Some.place (uses_in xs)) c.deref.ensures.value c.in-Some.ensures.some in
    omega (arith, c.requires, first_used (λ e. (e.state, e.uses)) c.args.state c.args.entries.now.items c.in-Some.place c.index_mut.result.now first c.index_mut.ensures.value)

pub returns-in_ok-listing-in-Some-clause-taken : goal.returns-in_ok-listing-in-Some-clause-taken
returns-in_ok-listing-in-Some-clause-taken g c =
    let first : IsFirst c.args.state c.in-Some.place (uses_in c.args.entries.now.items) = subst (λ xs. IsFirst c.args.state c.in-Some.place (uses_in xs)) c.deref.ensures.value c.in-Some.ensures.some in
    let some : 0 < c.index_mut.result.now.uses = omega (arith, c.requires, first_used (λ e. (e.state, e.uses)) c.args.state c.args.entries.now.items c.in-Some.place c.index_mut.result.now first c.index_mut.ensures.value) in (
      c.index_mut.result.now,
      (c.in-Some.place, first_low (λ e. (e.state, e.uses)) c.args.state c.args.entries.now.items c.in-Some.place first, sym c.index_mut.ensures.value),
      first_state (λ e. (e.state, e.uses)) c.args.state c.args.entries.now.items c.in-Some.place c.index_mut.result.now first c.index_mut.ensures.value,
      some,
      c.in_ok-listing-in-Some.ensures.same,
    )

pub returns-in_ok-listing-in-Some-clause-still : goal.returns-in_ok-listing-in-Some-clause-still
returns-in_ok-listing-in-Some-clause-still g c =
    let first : IsFirst c.args.state c.in-Some.place (uses_in c.args.entries.now.items) = subst (λ xs. IsFirst c.args.state c.in-Some.place (uses_in xs)) c.deref.ensures.value c.in-Some.ensures.some in
    still_found c.args.entries.now.items c.in-Some.place c.index_mut.result.now c.take_from.new.entry (first_low (λ e. (e.state, e.uses)) c.args.state c.args.entries.now.items c.in-Some.place first) c.index_mut.ensures.value
    c.in_ok-listing-in-Some.ensures.state c.in_ok-listing-in-Some.ensures.uses c.in_ok-listing-in-Some.ensures.still

pub returns-in_ok-listing-in-Some-clause-used : goal.returns-in_ok-listing-in-Some-clause-used
returns-in_ok-listing-in-Some-clause-used g c =
    let first : IsFirst c.args.state c.in-Some.place (uses_in c.args.entries.now.items) = subst (λ xs. IsFirst c.args.state c.in-Some.place (uses_in xs)) c.deref.ensures.value c.in-Some.ensures.some in
    λ q. used_once_less (λ e. (e.state, e.uses)) c.args.state c.args.entries.now.items c.in-Some.place c.index_mut.result.now c.take_from.new.entry q first c.index_mut.ensures.value
    (c.in_ok-listing-in-Some.ensures.state ∙ first_state (λ e. (e.state, e.uses)) c.args.state c.args.entries.now.items c.in-Some.place c.index_mut.result.now first c.index_mut.ensures.value) c.in_ok-listing-in-Some.ensures.uses

pub returns-in-None-clause-taken : goal.returns-in-None-clause-taken
returns-in-None-clause-taken g c =
    let none = nowhere_used (λ e. (e.state, e.uses)) c.args.state c.args.entries.now.items (subst (λ xs. IsNowhere c.args.state (uses_in xs)) c.deref.ensures.value c.in-None.ensures.none) in
    absurd (omega (arith, c.requires, none))

pub returns-in-None-clause-used : goal.returns-in-None-clause-used
returns-in-None-clause-used g c =
    let none = nowhere_used (λ e. (e.state, e.uses)) c.args.state c.args.entries.now.items (subst (λ xs. IsNowhere c.args.state (uses_in xs)) c.deref.ensures.value c.in-None.ensures.none) in
    absurd (omega (arith, c.requires, none))
