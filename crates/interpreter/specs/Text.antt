-- How replies and effects are printed; a call is printed as `script` says.
use Rattle.std.specs.Prelude.{ℕ, List, [], ◌++◌, if◌then◌else◌, length, codes, decimal}
use Rattle.std.specs.List.{flat_map}
use Rattle.mds_base.specs.Entries.{is_file, stamp_of}
use Rattle.mds_base.specs.declared.attr.Attr.{Attr}
use Rattle.mds_base.specs.declared.reply.Final.{Final}
use Rattle.mds_base.specs.declared.reply.Final.TheVariants.{Created, CreatedDir, Exists, Removed, Missing, IsDir, Set}
use Rattle.mds_base.specs.declared.reply.Final.TheVariants.{Ids, Loaded, Stale, Sealed, NotEmpty, Late, Opened, Killed}
use Rattle.mds_base.specs.declared.reply.Reply.{Reply}
use Rattle.mds_base.specs.declared.reply.Reply.TheVariants.{Said, Found, Listed}
use Rattle.mds_base.specs.declared.entry.Entry.{Entry}
use Rattle.client_core.specs.declared.taken.Taken.{Taken}
use Rattle.client_core.specs.declared.taken.Taken.TheVariants as takes
use Rattle.script.specs.Text.{call_text, stamp_text}
use Rattle.message_store.specs.declared.made.Made.{Made}
use Rattle.simulation.specs.Shows.{SimulationV, stands_in}

-- what an entry is
abbrev pub kind_text : Attr → List ℕ
kind_text attr = (if is_file attr then codes "file" else (codes "dir " ++ decimal attr.dir)) ++ codes " "
    ++ decimal attr.mode ++ codes " " ++ decimal attr.size ++ stamp_text (stamp_of attr)

abbrev pub final_text : Final → List ℕ
final_text Created = codes "created"
final_text (CreatedDir number) = codes "created " ++ decimal number
final_text Exists = codes "exists"
final_text Removed = codes "removed"
final_text Missing = codes "missing"
final_text IsDir = codes "isdir"
final_text Set = codes "set"
final_text (Ids first) = codes "ids " ++ decimal first
final_text (Loaded count) = codes "loaded " ++ decimal count
final_text Stale = codes "stale"
final_text (Sealed depth epoch) = codes "sealed " ++ decimal depth ++ codes " " ++ decimal epoch
final_text NotEmpty = codes "notempty"
final_text Late = codes "late"
final_text Opened = codes "opened"
final_text Killed = codes "killed"

abbrev pub reply_text : Reply → List ℕ
reply_text (Said said) = final_text said
reply_text (Found attr until) = codes "found " ++ kind_text attr
reply_text (Listed rows) = codes "listed " ++ decimal (length rows)

-- the line of an effect
abbrev pub effect_line : Entry → List ℕ
effect_line entry = codes "= " ++ decimal entry.client ++ codes " " ++ decimal entry.seq ++ codes " "
    ++ call_text entry.call ++ codes " " ++ reply_text entry.reply ++ codes "\n"

abbrev pub effects_of : List Entry → List ℕ
effects_of entries = flat_map effect_line entries

-- the line of an entry that was made, where it is an effect
abbrev pub effect_of : {X : Type 0} → SimulationV X → Made → List ℕ
effect_of sim made = if stands_in sim made then effect_line made.entry else []

-- what a client made of a message, behind its number and that of its call
abbrev pub taken_text : Taken → List ℕ
taken_text (takes.Answer reply) = reply_text reply
taken_text (takes.Redirected part) = codes "redirect " ++ decimal part
taken_text (takes.Busy part) = codes "busy " ++ decimal part
taken_text (takes.Held until) = codes "held " ++ decimal until
taken_text takes.Paged = []
taken_text takes.Ignored = []

-- the line of a client that took a message
abbrev pub taken_line : ℕ → ℕ → Taken → List ℕ
taken_line client seq takes.Paged = []
taken_line client seq takes.Ignored = []
taken_line client seq taken = decimal client ++ codes " " ++ decimal seq ++ codes " " ++ taken_text taken ++ codes "\n"

-- the line of a server, behind a word
abbrev pub server_line : List ℕ → ℕ → List ℕ
server_line word server = word ++ decimal server ++ codes "\n"
