-- The text of a reply.
use Rattle.std.specs.Prelude.{ℕ, List, codes}
use Rattle.time_below.specs.ComponentRange.{range_refusal}
use Rattle.time_fmt.specs.declared.error.Format.{Format}
use Rattle.time_fmt.specs.declared.error.Format.TheVariants as error
use Rattle.time_show.specs.declared.reply.Reply.{Reply}
use Rattle.time_show.specs.declared.reply.Reply.TheVariants.{Formatted, Refused, BadLine}
use Rattle.time_show.specs.Answer.{ok_text, refused_text, bad_line_text, out_of_memory_name}

abbrev pub reply_text : Reply → List ℕ
reply_text (Formatted count width text) = ok_text count width text.now
reply_text (Refused written name) = refused_text written name.now
reply_text BadLine = bad_line_text

-- the name of an error
abbrev pub error_name : Format → List ℕ
error_name error.InsufficientTypeInformation = codes "insufficient"
error_name (error.InvalidComponent component) = component.now
error_name (error.ComponentRange range) = (range_refusal range).name
error_name error.OutOfMemory = out_of_memory_name
