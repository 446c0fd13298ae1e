mod FramesSent
mod OneBuffer
mod RecordFirst
mod SendLoop
mod StopTable
