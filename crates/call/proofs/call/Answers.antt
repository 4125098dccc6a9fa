use Rattle.std.proofs.Common.{◌≡◌, true, arith}
use Rattle.std.proofs.lemmas.Result.{err_from_is_err_and}
use Rattle.shape.specs.Shape.{shaped}
use Rattle.access.specs.Inner.Seen.{net_of}
use Rattle.call.proofs.Ends.{in_both, copies, ends-1, ends-3, ends-10, ends-8, ends-0}
use Rattle.call.proofs.call.Goals as goal

pub returns-in_err-net : goal.returns-in_err-net
returns-in_err-net c =
    let p = err_from_is_err_and c.from_residual.result c.from_residual.ensures.1 in
    let k = c.in_err-net.ensures.err in
    let a = c.args in
    rw (p.1, p.2, k.0) (ends-1 a.net.now a.g a.c a.out.now k.1)

-- what was read is what was lent
pub returns-then-not-is_group-is_station : goal.returns-then-not-is_group-is_station
returns-then-not-is_group-is_station c =
    let a = c.args in
    let l = c.in_ok-net.net.bytes.now in
    let e = c.in_ok-net.ensures.ok.0 in
    let s : shaped l ≡ true = rw e c.in_ok-net.ensures.ok.2 in
    rw (← e) (ends-3 l a.g a.c a.out.now s (cc))

pub returns-then-out-ne-LIST_LENGTH : goal.returns-then-out-ne-LIST_LENGTH
returns-then-out-ne-LIST_LENGTH c =
    let a = c.args in
    let l = c.in_ok-net.net.bytes.now in
    let e = c.in_ok-net.ensures.ok.0 in
    let s : shaped l ≡ true = rw e c.in_ok-net.ensures.ok.2 in
    rw (← e) (ends-10 l a.g a.c a.out.now s (cc) c.if-out-ne-LIST_LENGTH.true)

pub on_tree-requires : goal.on_tree-requires
on_tree-requires c = let a = c.args in in_both (net_of c.in_ok-net.net) a.g a.c (cc)

pub returns-then-not-on_tree : goal.returns-then-not-on_tree
returns-then-not-on_tree c =
    let a = c.args in
    let l = c.in_ok-net.net.bytes.now in
    let e = c.in_ok-net.ensures.ok.0 in
    let s : shaped l ≡ true = rw e c.in_ok-net.ensures.ok.2 in
    rw (← e) (ends-8 l a.g a.c a.out.now s (cc) c.if-out-ne-LIST_LENGTH.false (cc))

pub list_reached-reached-requires-clause-g_bound : goal.list_reached-reached-requires-clause-g_bound
list_reached-reached-requires-clause-g_bound c = let a = c.args in (in_both (net_of c.in_ok-net.net) a.g a.c (cc)).0

pub overflow_sub-result : goal.overflow_sub-result
overflow_sub-result c =
    let a = c.args in
    let n = c.in_ok-net.net in
    let m = copies n.bytes.now n.is_net a.g a.c (in_both (net_of n) a.g a.c (cc)).0 (cc) in
    omega (arith, m, c.list_reached-reached.ensures.count)

pub returns : goal.returns
returns c =
    let a = c.args in
    let l = c.in_ok-net.net.bytes.now in
    let e = c.in_ok-net.ensures.ok.0 in
    let s : shaped l ≡ true = rw e c.in_ok-net.ensures.ok.2 in
    let r = c.list_reached-reached in
    rw (← e)
    (ends-0 l a.g a.c a.out.now s (cc) c.if-out-ne-LIST_LENGTH.false c.in_ok-net.net.is_net (cc) _ _ r.ensures.count r.ensures.list)
