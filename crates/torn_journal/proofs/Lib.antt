mod AfterTheGate
mod AnswersFitImages
mod BeforeOrAfter
pub mod CallOfTheStop
mod CallsOfAnAppend
mod FirstImage
mod Fronts
mod NothingChanged
pub mod OneDamage
pub mod OneList
mod Questions
mod RecordsRead
mod SoundOrDamaged
mod StopsOfAnAppend
