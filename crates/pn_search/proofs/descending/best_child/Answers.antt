use Rattle.std.proofs.Common.{◌<◌, Some, None, get_or, length, ◌∙◌, arith}
use Rattle.std.proofs.lemmas.Option.{slice_get-get_or}
use Rattle.pn_search.proofs.Carried.{no_node}
use Rattle.pn_search.proofs.Descent.{best-found, best-none}
use Rattle.pn_search.proofs.descending.best_child.Goals as goal

pub children_of-requires : goal.children_of-requires
children_of-requires c =
    let nodes = c.args.nodes.now in
    let here = slice_get-get_or nodes c.args.at no_node c.requires.within in
    let within = ((c.requires.placed c.args.at (get_or nodes c.args.at no_node) here).children c.in-Inner.first c.in-Inner.count c.in-Inner.is).within in
    omega (arith, c.requires.len)

pub returns-in_err-place-in-Inner-clause-child : goal.returns-in_err-place-in-Inner-clause-child
returns-in_err-place-in-Inner-clause-child c =
    let nodes = c.args.nodes.now in
    let here = slice_get-get_or nodes c.args.at no_node c.requires.within in
    let low : c.args.at < length c.args.pairs.now = omega (arith, c.requires.len, c.requires.within) in
    let found = best-found nodes c.args.pairs.now c.args.at (get_or nodes c.args.at no_node) here c.in-Inner.first c.in-Inner.count c.own_number-number.result c.children_of.result.now None c.in-Inner.is low c.own_number-number.ensures c.children_of.ensures c.in_err-place-in-Inner.ensures.first in
    c.from_residual.ensures ∙ found

pub returns-in_ok-place-in-Inner-clause-child : goal.returns-in_ok-place-in-Inner-clause-child
returns-in_ok-place-in-Inner-clause-child c =
    let nodes = c.args.nodes.now in
    let here = slice_get-get_or nodes c.args.at no_node c.requires.within in
    let low : c.args.at < length c.args.pairs.now = omega (arith, c.requires.len, c.requires.within) in
    best-found nodes c.args.pairs.now c.args.at (get_or nodes c.args.at no_node) here c.in-Inner.first c.in-Inner.count c.own_number-number.result c.children_of.result.now (Some c.in_ok-place-in-Inner.place) c.in-Inner.is low c.own_number-number.ensures c.children_of.ensures c.in_ok-place-in-Inner.ensures.first

pub returns-in_default : goal.returns-in_default
returns-in_default c =
    let nodes = c.args.nodes.now in
    let here = slice_get-get_or nodes c.args.at no_node c.requires.within in
    record { child = best-none nodes c.args.pairs.now c.args.at (get_or nodes c.args.at no_node) here c.in_default.not-Inner; within = tt }
