-- How a reply is written.
use Rattle.std.specs.Prelude.{ℕ, Bool, true, false, List, [], ◌++◌, Option, Some, None}
use Rattle.std.specs.Fmt.{decimal}
use lib.Chars.{codes}
use Rattle.executor_core.specs.declared.interleave.reply.Reply.{Reply}
use Rattle.executor_core.specs.declared.interleave.reply.Reply.TheVariants as reply

-- said if an awaiter came out
abbrev pub awaiter_text : Bool → List ℕ
awaiter_text true = codes " awaiter"
awaiter_text false = []

-- a number behind a word
abbrev pub number_text : Option ℕ → List ℕ
number_text None = []
number_text (Some n) = codes " " ++ decimal n

abbrev pub reply_text : Reply ℕ → List ℕ
reply_text (reply.Task n) = codes "task " ++ decimal n
reply_text reply.Notice = codes "notice"
reply_text reply.Nothing = codes "nothing"
reply_text (reply.Poll n) = codes "poll " ++ decimal n
reply_text (reply.Drop n) = codes "drop " ++ decimal n
reply_text reply.NoTask = codes "none"
reply_text (reply.Idle n) = codes "idle " ++ decimal n
reply_text (reply.Queued n) = codes "queued " ++ decimal n
reply_text (reply.Finished awaiter) = codes "finished" ++ awaiter_text awaiter
reply_text (reply.Unwanted output awaiter) = codes "unwanted " ++ decimal output ++ awaiter_text awaiter
reply_text (reply.Gone awaiter) = codes "gone" ++ awaiter_text awaiter
reply_text reply.Pick = codes "pick"
reply_text (reply.Sleeper i) = codes "sleeper " ++ decimal i
reply_text reply.Nobody = codes "nobody"
reply_text (reply.Output output) = codes "output " ++ decimal output
reply_text reply.Cancelled = codes "cancelled"
reply_text reply.Pending = codes "pending"
reply_text (reply.Ticker k) = codes "ticker " ++ decimal k
reply_text reply.Done = codes "done"
reply_text (reply.Number i) = codes "number " ++ decimal i
reply_text reply.Again = codes "again"
reply_text reply.Parked = codes "parked"
reply_text reply.Notified = codes "notified"
reply_text reply.Unnotified = codes "unnotified"
reply_text (reply.Stored true) = codes "true"
reply_text (reply.Stored false) = codes "false"
reply_text (reply.Moved count) = codes "moved " ++ decimal count
reply_text reply.Awake = codes "awake"
reply_text reply.LogFull = codes "log full"
reply_text reply.NotNow = codes "not now"
reply_text reply.OutOfMemory = codes "out of memory"
