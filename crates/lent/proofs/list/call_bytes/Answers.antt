use Rattle.lent.proofs.Calls.{fits-all, fits-none, fills-none, fills-sixteen}
use Rattle.lent.proofs.list.call_bytes.Goals as goal
use Rattle.lent.proofs.list.call_bytes.Goals.{then-n-eq-MOST_STATIONS, else-n-eq-MOST_STATIONS}

pub returns-in-Ok : goal.returns-in-Ok
returns-in-Ok c =
    let a = c.args in
    let s = c.if-n-eq-MOST_STATIONS in
    fills-sixteen a.net.now a.g a.c a.n s.size
    (elim s.branch [
      | then-n-eq-MOST_STATIONS w ↦ fits-all _ _ w.size-is w.if-n-eq-MOST_STATIONS.true
      | else-n-eq-MOST_STATIONS w ↦ fits-none _ _ w.size-is w.if-n-eq-MOST_STATIONS.false
    ]) _ _ c.call-called.ensures _ c.in-Ok.is c.call-called.auto.out

pub returns-in-Err : goal.returns-in-Err
returns-in-Err c =
    let a = c.args in
    let s = c.if-n-eq-MOST_STATIONS in
    fills-none a.net.now a.g a.c a.n s.size
    (elim s.branch [
      | then-n-eq-MOST_STATIONS w ↦ fits-all _ _ w.size-is w.if-n-eq-MOST_STATIONS.true
      | else-n-eq-MOST_STATIONS w ↦ fits-none _ _ w.size-is w.if-n-eq-MOST_STATIONS.false
    ]) _ _ c.call-called.ensures _ c.in-Err.is
