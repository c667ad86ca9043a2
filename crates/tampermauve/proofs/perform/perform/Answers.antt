-- `perform`: what was played, and what its end leaves.
use mathlib.Core.Path.{sym}
use Rattle.tampermauve.proofs.Left.{closes, log-same, report-left}
use Rattle.tampermauve.proofs.perform.perform.Goals as goal

pub close_buffers-requires : goal.close_buffers-requires
close_buffers-requires c =
    closes _ _ _ c.requires.playing.named.laid.ok c.play-played.result _ c.requires.playing.workers c.play-played.ensures.over c.requires.size

pub returns : goal.returns
returns c =
    let out = c.play-played.ensures in
    let given = c.requires.playing in
    record {
      played = out.played;
      listed = out.listed;
      ends = out.ends;
      same_memory = sym out.over.refines.bytes.shared;
      same_log = log-same _ _ _ given.named.laid.ok c.play-played.result _ given.workers out.over (c.close_buffers.ensures _ c.is_empty-ended.ensures);
      same_report = report-left _ _ _ given.named.laid.ok c.play-played.result _ given.workers out.over (c.close_buffers.ensures _ c.is_empty-ended.ensures);
    }
