use Rattle.std.proofs.Common.{sym}
use Rattle.lvl_job.proofs.said.say.Goals as goal

pub returns-in-BadView : goal.returns-in-BadView
returns-in-BadView g c = rw (c.in-BadView.is, sym c.view_fault.ensures, sym c.view_form.ensures) c.say_parts.ensures

pub returns-in-BadIgnore : goal.returns-in-BadIgnore
returns-in-BadIgnore g c = rw (c.in-BadIgnore.is, sym c.ignore_fault.ensures) c.say_parts-in-BadIgnore.ensures

pub returns-in-NotOpened : goal.returns-in-NotOpened
returns-in-NotOpened g c =
    rw (c.in-NotOpened.is, sym c.as_str.ensures.value, sym c.open_form.ensures) c.say_parts-in-NotOpened.ensures

pub returns-in-UnreadList : goal.returns-in-UnreadList
returns-in-UnreadList g c = rw (c.in-UnreadList.is, sym c.as_str-in-UnreadList.ensures.value) c.say_parts-in-UnreadList.ensures

pub returns-in-LongList : goal.returns-in-LongList
returns-in-LongList g c = rw (c.in-LongList.is, sym c.as_str-in-LongList.ensures.value) c.say_parts-in-LongList.ensures

pub returns-in-BadLine : goal.returns-in-BadLine
returns-in-BadLine g c = rw (c.in-BadLine.is, sym c.as_str-in-BadLine.ensures.value) c.say_bad_line.ensures

pub returns-in-OutOfMemory : goal.returns-in-OutOfMemory
returns-in-OutOfMemory g c = rw c.in-OutOfMemory.is c.say_line.ensures

pub returns-in-Output : goal.returns-in-Output
returns-in-Output g c = rw c.in-Output.is c.say_line-in-Output.ensures
