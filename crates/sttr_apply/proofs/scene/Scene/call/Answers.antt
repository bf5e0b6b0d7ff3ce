use Rattle.std.proofs.Common.{◌<◌, length, sym, ap, subst, ◌∙◌, arith}
use Rattle.std.proofs.lemmas.List.{length-map}
use Rattle.model_tree.specs.Tree.{children_of, list_of}
use Rattle.model_tree.specs.TreeCode.{trees_of-list_of}
use Rattle.sttr_core.specs.Machine.{transducer_of}
use Rattle.sttr_apply.specs.Calls.{called, used, uses_in, IsTaken, AreStillFound}
use Rattle.sttr_apply.specs.Tables.{lists_in, IsTable, KeepsUses}
use Rattle.sttr_apply.proofs.Tabled.{taken_found, table_after, uses_after, call_nothing, lists_at, lists_set, called_itself}
use Rattle.sttr_apply.proofs.scene.Scene.call.Goals as goal

pub returns-then-child-len-clause-found : goal.returns-then-child-len-clause-found
returns-then-child-len-clause-found g c =
    let long = length-map c.args.table.now.items (λ v. v.items) in
    call_nothing g.T.Theory.label_of g.T.Value.Ord.cmp (transducer_of g.T.Theory.atom_holds g.T.Labels.make c.args.self.now.sttr.now) c.args.place.now.tree.now (list_of (children_of c.args.place.now.tree.now)) (trees_of-list_of (children_of c.args.place.now.tree.now)) c.args.state c.args.child _ _
    (omega (arith, c.if-child-len.true, c.len.ensures, c.args.table.now.ok.0, c.requires.table.width, long)) c.nothing.ensures.cuts c.nothing.ensures.far

pub take-requires : goal.take-requires
take-requires g c =
    let low : c.args.child < length c.args.table.now.items = omega (arith, c.if-child-len.false, c.len.ensures, c.args.table.now.ok.0) in
    let at = lists_at c.args.table.now.items c.args.child c.index_mut-entries.result.now low c.index_mut-entries.ensures.value in
    let long = length-map c.args.table.now.items (λ v. v.items) in
    let some = c.requires.uses c.args.state c.args.child (omega (arith, low, long)) in
    omega (arith, some, called_itself c.args.state c.args.child, ap (λ xs. used (uses_in xs) c.args.state) at)

pub returns-clause-found : goal.returns-clause-found
returns-clause-found g c =
    let low : c.args.child < length c.args.table.now.items = omega (arith, c.if-child-len.false, c.len.ensures, c.args.table.now.ok.0) in
    let at = lists_at c.args.table.now.items c.args.child c.index_mut-entries.result.now low c.index_mut-entries.ensures.value in
    taken_found g.T.Theory.label_of g.T.Value.Ord.cmp g.met.T.Value.Ord.total g.met.T.Theory.equal_values (transducer_of g.T.Theory.atom_holds g.T.Labels.make c.args.self.now.sttr.now) c.args.place.now.tree.now (lists_in c.args.table.now.items) c.requires.table c.args.state c.args.child c.in_ok-listing.listing (subst (λ xs. IsTaken g.T.Theory.label_of xs c.args.state c.in_ok-listing.listing) (sym at) c.in_ok-listing.ensures.taken)

pub returns-clause-table : goal.returns-clause-table
returns-clause-table g c =
    let low : c.args.child < length c.args.table.now.items = omega (arith, c.if-child-len.false, c.len.ensures, c.args.table.now.ok.0) in
    let at = lists_at c.args.table.now.items c.args.child c.index_mut-entries.result.now low c.index_mut-entries.ensures.value in
    let long = length-map c.args.table.now.items (λ v. v.items) in
    subst (IsTable g.T.Theory.label_of g.T.Value.Ord.cmp (transducer_of g.T.Theory.atom_holds g.T.Labels.make c.args.self.now.sttr.now) c.args.place.now.tree.now) (sym (lists_set c.args.table.now.items c.args.child c.take.new.entries))
    (table_after g.T.Theory.label_of g.T.Value.Ord.cmp g.met.T.Value.Ord.total g.met.T.Theory.equal_values (transducer_of g.T.Theory.atom_holds g.T.Labels.make c.args.self.now.sttr.now) c.args.place.now.tree.now (lists_in c.args.table.now.items) c.requires.table c.args.child c.take.new.entries.items (omega (arith, low, long)) (subst (λ xs. AreStillFound xs c.take.new.entries.items) (sym at) c.in_ok-listing.ensures.still))

pub returns-clause-uses : goal.returns-clause-uses
returns-clause-uses g c =
    let low : c.args.child < length c.args.table.now.items = omega (arith, c.if-child-len.false, c.len.ensures, c.args.table.now.ok.0) in
    let at = lists_at c.args.table.now.items c.args.child c.index_mut-entries.result.now low c.index_mut-entries.ensures.value in
    let long = length-map c.args.table.now.items (λ v. v.items) in
    subst (λ new. KeepsUses (lists_in c.args.table.now.items) new (called c.args.state c.args.child)) (sym (lists_set c.args.table.now.items c.args.child c.take.new.entries))
    (uses_after (lists_in c.args.table.now.items) c.args.child c.take.new.entries.items c.args.state (omega (arith, low, long))
    (λ q. c.in_ok-listing.ensures.used q ∙ ap (λ xs. used (uses_in xs) q) (sym at)))
