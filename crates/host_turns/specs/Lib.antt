pub mod Reading
pub mod HostTags
