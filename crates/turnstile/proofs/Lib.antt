mod Lists
mod Keeping
mod Visiting
