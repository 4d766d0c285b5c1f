use Rattle.async_executor.proofs.Places.{kept_here, kept_of_another, kept_past, kept_within}
use Rattle.async_executor.proofs.futures.FutureTable.kept.Goals as goal
use Rattle.async_executor.proofs.futures.FutureTable.kept.Goals.{in_default-via-in-Some+else-place-number, in_default-via-in_default}

pub returns-in-Some-clause-kept : goal.returns-in-Some-clause-kept
returns-in-Some-clause-kept g c =
    let read = c.in-Some.ensures.lookup in
    kept_here _ _ _ _ _ _ c.in-Some.place.now c.deref.ensures.value c.slot.ensures c.number.ensures read.3.0 read.1 c.if-place-number.true

pub returns-in-Some-clause-inside : goal.returns-in-Some-clause-inside
returns-in-Some-clause-inside g c = kept_within _ _ _ _ _ c.deref.ensures.value c.deref.ensures.len

pub returns-in_default-clause-kept : goal.returns-in_default-clause-kept
returns-in_default-clause-kept g c = elim c.in_default.branch [
  | in_default-via-in-Some+else-place-number w ↦ (let read = w.in-Some.ensures.lookup in
      kept_of_another _ _ _ _ _ _ w.in-Some.place.now c.deref.ensures.value c.slot.ensures w.number.ensures read.3.0 read.1 w.if-place-number.false)
  | in_default-via-in_default w ↦ kept_past _ _ _ _ _ c.deref.ensures.value c.slot.ensures w.in_default.ensures.lookup.3
]

pub returns-in_default-clause-inside : goal.returns-in_default-clause-inside
returns-in_default-clause-inside g c = kept_within _ _ _ _ _ c.deref.ensures.value c.deref.ensures.len
