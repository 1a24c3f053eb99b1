pub mod View
pub mod GoView
pub mod SettingView
