use Rattle.std.proofs.Common.{[], ◌∷◌, ◌++◌, ◌∙◌, refl, arith, length}
use Rattle.std.proofs.iter.Next.{Yields-more}
use Rattle.std.proofs.lemmas.List.{length_push}
use Rattle.async_executor.proofs.Handles.{adds_none, adds_one}
use Rattle.async_executor.proofs.scheduler.ExecutorIn.spawn_many.Goals as goal

pub loop-futures-init : goal.loop-futures-init
loop-futures-init g c =
    (c.requires.can, c.requires.ends, ([], refl, rw c.expect_handles-tasks.ensures.items (adds_none g.T.Handle.answered c.args.handles.now.items), omega arith))

pub loop-futures-preserved : goal.loop-futures-preserved
loop-futures-preserved g c =
    let loop = c.loop-futures.invariant in
    let next = c.in-Some.ensures.goes.on loop.1 in
    let xs = loop.2.0 in
    let added = c.add_handle.ensures.added in
    let count = length_push xs c.in-Some.future in (
      next.0,
      next.1,
      (
        xs ++ c.in-Some.future ∷ [],
        Yields-more g.I.Iterator.next_gives c.args.futures xs c.loop-futures.futures c.in-Some.future _ loop.2.1 c.in-Some.ensures.steps,
        adds_one g.T.Handle.answered c.args.handles.now.items c.loop-futures.handles.items c.try_reserve.new.self.items c.add_handle.new.handles.items (length xs) (length (xs ++ c.in-Some.future ∷ [])) added.0 count loop.2.2 c.try_reserve.ensures.items added.1 added.2,
        omega (arith, loop.2.3, count, c.add_handle.ensures.len, c.try_reserve.ensures.len),
      ),
    )

pub returns-then-is_err-clause-futures : goal.returns-then-is_err-clause-futures
returns-then-is_err-clause-futures g c =
    let loop = c.loop-futures.invariant.2 in
    (loop.0, omega (arith, loop.3, c.len.ensures), (c.loop-futures.futures, loop.1, refl))

pub returns-then-is_err-clause-handles : goal.returns-then-is_err-clause-handles
returns-then-is_err-clause-handles g c =
    let loop = c.loop-futures.invariant.2 in
    let added = loop.2 in
    (added.0, c.try_reserve.ensures.items ∙ added.1, omega (arith, added.2, loop.3, c.len.ensures), added.3)

pub returns-then-is_err-clause-place : goal.returns-then-is_err-clause-place
returns-then-is_err-clause-place g c = tt
